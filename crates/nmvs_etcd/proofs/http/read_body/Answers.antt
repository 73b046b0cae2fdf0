use Rattle.std.proofs.Common.{◌≡◌, ◌∙◌, ◌+◌, ◌-◌, ◌≤◌, ◌++◌, ℕ, List, length, take, drop, sym, ap, subst, subst₂, append_assoc, length-append, length-drop, arith}
use Rattle.std.proofs.lemmas.List.{take_all}
use Rattle.httparse.specs.Spans.{span_bytes}
use Rattle.http1.specs.declared.conn.Reading.TheVariants as Reads
use Rattle.http1.specs.declared.decode.Decoder.{Decoder}
use Rattle.http1.specs.Client.{ClientReads}
use Rattle.nmvs_etcd.proofs.Hearing.{IsReadUpTo, after_data, after_more, at_end, data_read, end_read, more_needed}
use Rattle.nmvs_etcd.proofs.http.read_body.Goals as goal
use Rattle.nmvs_etcd.proofs.http.read_body.Goals.{in-NeedMore+in_ok-hear-in-NeedMore, in-Data+in_ok-add-in-Data}

rest_of : (t text : List ℕ) (at : ℕ) → t ≡ text → take (length t - at) (drop at t) ≡ drop at text
rest_of t text at is = take_all (length t - at) (drop at t) (omega (arith, length-drop at t)) ∙ ap (drop at) is

pub returns-in-End-clause-body : goal.returns-in-End-clause-body
returns-in-End-clause-body g c d is =
    let now = c.loop.invariant.4 d is in
    let text = c.loop.heard.items in
    let input = rest_of c.deref.result.now text c.loop.at c.deref.ensures.value in
    let found = subst (λ (i : List ℕ). ClientReads c.loop.client i c.read.new.headers c.read.new.self c.in-Ok.progress) input c.in-Ok.ensures.ok in
    at_end d now.0 c.args.end c.loop.at c.in-Ok.progress.consumed text c.loop.body.items now.2
    (end_read now.0 c.loop.client c.read.new.self (drop c.loop.at text) c.read.new.headers c.in-Ok.progress now.1 found c.in-End.field-0 c.in-End.is)
    (omega (arith, c.if-at-len.true, c.len.ensures, c.loop.heard.ok.0))

pub loop-preserved : goal.loop-preserved
loop-preserved g c =
    let inv = c.loop.invariant in
    let text = c.loop.heard.items in
    let body = c.loop.body.items in
    let len = c.in-Ok.progress.consumed in
    let now_text = c.match-progress.heard.items in
    let input = rest_of c.deref.result.now text c.loop.at c.deref.ensures.value in
    let found = subst (λ (i : List ℕ). ClientReads c.loop.client i c.read.new.headers c.read.new.self c.in-Ok.progress) input c.in-Ok.ensures.ok in
    let fits : c.loop.at + len ≤ length text = omega (arith, inv.2, c.in-Ok.ensures.consumed, ap length input, length-drop c.loop.at text) in
    elim c.match-progress.branch [
      | in-NeedMore+in_ok-hear-in-NeedMore w ↦
          let more = w.in_ok-hear-in-NeedMore.ensures.heard in
          let items : now_text ≡ text ++ more.piece = ap (λ v. v.items) w.heard-is ∙ more.added in
          let longer = ap length items ∙ length-append text more.piece in (
            ap g.C.Connection.sent w.connection-is ∙ w.in_ok-hear-in-NeedMore.ensures.sent ∙ inv.0,
            (
              inv.1.0 ++ more.piece,
              ap g.C.Connection.heard w.connection-is ∙ more.came ∙ ap (λ (t : List ℕ). t ++ more.piece) inv.1.1 ∙ append_assoc (g.C.Connection.heard c.args.connection.now) inv.1.0 more.piece,
              items ∙ ap (λ (t : List ℕ). t ++ more.piece) inv.1.2 ∙ append_assoc c.args.heard.now.items inv.1.0 more.piece,
            ),
            omega (arith, fits, longer),
            omega (arith, inv.3, longer),
            λ start is.
                let now = inv.4 start is in
                let goes = more_needed now.0 c.loop.client c.read.new.self (drop c.loop.at text) c.read.new.headers c.in-Ok.progress now.1 found w.in-NeedMore.is in
                subst₂ (λ (t b : List ℕ). (next : Decoder) × (c.read.new.self.reading ≡ Reads.Body next) × IsReadUpTo start next c.args.end (c.loop.at + len) t b) (sym items) (sym (ap (λ v. v.items) w.body-is))
                (after_more start now.0 c.args.end c.loop.at len text more.piece body c.read.new.self inv.3 fits now.2 goes),
          )
      | in-Data+in_ok-add-in-Data w ↦
          let items : now_text ≡ text = ap (λ v. v.items) w.heard-is in
          let span = w.in-Data.span in
          let piece = span_bytes (drop c.loop.at text) span in
          let content : c.match-progress.body.items ≡ body ++ piece = ap (λ v. v.items) w.body-is ∙ w.in_ok-add-in-Data.ensures ∙ ap (λ (p : List ℕ). body ++ p) (w.of.ensures ∙ ap (λ (i : List ℕ). span_bytes i span) input) in (
            ap g.C.Connection.sent w.connection-is ∙ inv.0,
            (inv.1.0, ap g.C.Connection.heard w.connection-is ∙ inv.1.1, items ∙ inv.1.2),
            omega (arith, fits, ap length items),
            omega (arith, inv.3, ap length items),
            λ start is.
                let now = inv.4 start is in
                let goes = data_read now.0 c.loop.client c.read.new.self (drop c.loop.at text) c.read.new.headers c.in-Ok.progress now.1 found span w.in-Data.is in
                subst₂ (λ (t b : List ℕ). (next : Decoder) × (c.read.new.self.reading ≡ Reads.Body next) × IsReadUpTo start next c.args.end (c.loop.at + len) t b) (sym items) (sym content)
                (after_data start now.0 c.args.end c.loop.at len text piece body c.read.new.self now.2 goes),
          )
    ]
