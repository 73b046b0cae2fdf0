-- An answer that comes in pieces.
use Rattle.std.proofs.Common.{◌≡◌, ℕ, ◌+◌, ◌≤◌, List, [], ◌++◌, length, drop, refl, sym, ap, ◌∙◌, subst, append_assoc, arith}
use Rattle.std.proofs.Math.ListN.{drop_of_length-le}
use Rattle.std.proofs.lemmas.List.{append-nil, drop-append-le, drop-drop}
use Rattle.httparse.specs.Grammar.{Field, status_code}
use Rattle.httparse.specs.Spans.{span_bytes}
use Rattle.httparse.specs.declared.spans.HeaderSpan.{HeaderSpan}
use Rattle.httparse.specs.declared.spans.ResponseSpans.{ResponseSpans}
use Rattle.httparse.specs.declared.spans.Span.{Span}
use Rattle.httparse.proofs.GrammarLemmas.{ReadsResponse-append}
use Rattle.http1.specs.declared.client.Client.{Client}
use Rattle.http1.specs.declared.conn.Event.TheVariants.{NeedMore, Data, End}
use Rattle.http1.specs.declared.conn.Progress.{Progress}
use Rattle.http1.specs.declared.conn.Reading.{Reading}
use Rattle.http1.specs.declared.conn.Reading.TheVariants as Reads
use Rattle.http1.specs.declared.decode.Decoder.{Decoder}
use Rattle.http1.specs.declared.framing.MethodKind.TheVariants.{Other}
use Rattle.http1.specs.Body.{Body, body_of}
use Rattle.http1.specs.Client.{ClientReads, ReadsAt, ReadsInBody, after_piece}
use Rattle.http1.specs.Conn.{ReadsPiece}
use Rattle.http1.specs.Decoder.{Completes, Continues, decoder_for, with_front}
use Rattle.http1.specs.Message.{ReadsResponseMessage, Response}
use Rattle.http1.proofs.OneParse.{body_from_completes, response_message_unique}
use Rattle.nmvs_etcd.specs.Exchanges.{AnswersAgree, HasBody, HasHead, IsAnswer, limits}

-- after some bytes, which held this piece, the client waits for the rest of the body
pub record GoesOn (d : Decoder) (input : List ℕ) (new : Client) (len : ℕ) (piece : List ℕ) : Type 0 where
  pub next : Decoder
  pub reading : new.reading ≡ Reads.Body next
  pub continues : Continues d input next len piece

-- the body ends after some bytes, whatever comes after it
abbrev pub EndsAt : Decoder → List ℕ → ℕ → Type 0
EndsAt d input len = (trailers : List Field) × ((more : List ℕ) → Completes d (input ++ more) (body_of [] trailers) (drop len input ++ more))

module _ (d : Decoder) (old new : Client) (input : List ℕ) (spans : List HeaderSpan) (read : Progress ResponseSpans) (in_body : old.reading ≡ Reads.Body d) (found : ClientReads old input spans new read) where
  within : ReadsInBody d old input spans new read
  within = subst (λ (x : Reading). ReadsAt x old input spans new read) in_body found

  moved : (next : Decoder) → within.0 ≡ Reads.Body next → new.reading ≡ Reads.Body next
  moved next is = ap (λ (x : Client). x.reading) (within.2 ∙ ap (after_piece old) is)

  pub data_read : (s : Span) → read.event ≡ Data s → GoesOn d input new read.consumed (span_bytes input s)
  data_read s is =
      let piece = subst (λ e. ReadsPiece d input spans within.0 read.consumed e) is within.1 in
      record {
        next = piece.0;
        reading = moved piece.0 piece.1;
        continues = subst (λ (n : ℕ). Continues d input piece.0 n (span_bytes input s)) (sym piece.2) piece.4;
      }

  pub more_needed : read.event ≡ NeedMore → GoesOn d input new read.consumed []
  more_needed is =
      let piece = subst (λ e. ReadsPiece d input spans within.0 read.consumed e) is within.1 in
      record { next = piece.0; reading = moved piece.0 piece.1; continues = piece.2.continues }

  pub end_read : (count : ℕ) → read.event ≡ End count → EndsAt d input read.consumed
  end_read count is =
      let piece = subst (λ e. ReadsPiece d input spans within.0 read.consumed e) is within.1 in
      (piece.1.trailers, piece.1.completes)

-- of the body for which the first decoder waits from the first place on, these bytes are read, and the second decoder waits for the rest
-- from the second place on
abbrev pub IsReadUpTo : (start now : Decoder) (end at : ℕ) (text body : List ℕ) → Type 0
IsReadUpTo start now end at text body =
    (more : List ℕ) (b : Body) (rest : List ℕ) → Completes now (drop at text ++ more) b rest → Completes start (drop end text ++ more) (with_front body b) rest

pub goes_on : (start now next : Decoder) (end at len : ℕ) (text body piece : List ℕ) → IsReadUpTo start now end at text body
    → Continues now (drop at text) next len piece → IsReadUpTo start next end (at + len) text (body ++ piece)
goes_on start now next end at len text body piece before step more b rest left =
    let here : Completes next (drop len (drop at text) ++ more) b rest = subst (λ (t : List ℕ). Completes next (t ++ more) b rest) (sym (drop-drop len at text)) left in
    let fronts : with_front body (with_front piece b) ≡ with_front (body ++ piece) b = λ i. record { bytes = sym (append_assoc body piece b.bytes) i; trailers = b.trailers } in
    subst (λ (x : Body). Completes start (drop end text ++ more) x rest) fronts (before more (with_front piece b) rest (step.back more b rest here))

pub comes_more : (start now : Decoder) (end at : ℕ) (text piece body : List ℕ) → end ≤ length text → at ≤ length text
    → IsReadUpTo start now end at text body → IsReadUpTo start now end at (text ++ piece) body
comes_more start now end at text piece body end_fits at_fits before more b rest left =
    let rest_of : (n : ℕ) → n ≤ length text → drop n (text ++ piece) ++ more ≡ drop n text ++ (piece ++ more) = λ n fits. ap (λ (t : List ℕ). t ++ more) (drop-append-le n text piece fits) ∙ append_assoc (drop n text) piece more in
    subst (λ (t : List ℕ). Completes start t (with_front body b) rest) (sym (rest_of end end_fits))
    (before (piece ++ more) b rest (subst (λ (t : List ℕ). Completes now t b rest) (rest_of at at_fits) left))

-- after a read that needed more, which then came
pub after_more : (start now : Decoder) (end at len : ℕ) (text piece body : List ℕ) (new : Client) → end ≤ length text → at + len ≤ length text
    → IsReadUpTo start now end at text body → GoesOn now (drop at text) new len []
    → (next : Decoder) × (new.reading ≡ Reads.Body next) × IsReadUpTo start next end (at + len) (text ++ piece) body
after_more start now end at len text piece body new end_fits at_fits before goes = (
  goes.next,
  goes.reading,
  comes_more start goes.next end (at + len) text piece body end_fits at_fits
      (subst (λ (b : List ℕ). IsReadUpTo start goes.next end (at + len) text b) (append-nil body) (goes_on start now goes.next end at len text body [] before goes.continues)),
)

-- after a read that gave a piece of the body
pub after_data : (start now : Decoder) (end at len : ℕ) (text piece body : List ℕ) (new : Client) → IsReadUpTo start now end at text body
    → GoesOn now (drop at text) new len piece
    → (next : Decoder) × (new.reading ≡ Reads.Body next) × IsReadUpTo start next end (at + len) text (body ++ piece)
after_data start now end at len text piece body new before goes =
    (goes.next, goes.reading, goes_on start now goes.next end at len text body piece before goes.continues)

-- at the end of the body, which is the end of the text
pub at_end : (start now : Decoder) (end at len : ℕ) (text body : List ℕ) → IsReadUpTo start now end at text body
    → EndsAt now (drop at text) len → at + len ≡ length text → HasBody start (drop end text) body
at_end start now end at len text body before last all =
    let none : drop len (drop at text) ≡ [] = drop-drop len at text ∙ drop_of_length-le text (omega (arith, all)) in
    record {
      trailers = last.0;
      reads = λ more.
          subst (λ (x : Body). Completes start (drop end text ++ more) x more) (λ i. record { bytes = append-nil body i; trailers = last.0 })
          (before more (body_of [] last.0) more (subst (λ (t : List ℕ). Completes now (drop at text ++ more) (body_of [] last.0) (t ++ more)) none (last.1 more)));
    }

-- an answer is whole with its head and its body
pub answered : (first text piece body : List ℕ) (status end : ℕ) (c : Client) (h : HasHead first status end c) → text ≡ first ++ piece
    → HasBody (decoder_for limits h.framing) (drop end text) body → IsAnswer text status body
answered first text piece body status end c h is b =
    let content = body_of body b.trailers in
    record {
      message = record { head = h.head; body = content };
      reads = λ more.
          let later = piece ++ more in
          let left : drop end text ++ more ≡ drop end first ++ later =
          ap (λ (t : List ℕ). drop end t ++ more) is ∙ ap (λ (t : List ℕ). t ++ more) (drop-append-le end first piece h.within) ∙ append_assoc (drop end first) piece more
          in
          let whole : ReadsResponseMessage limits Other (first ++ later) (record { head = h.head; body = content }) more = record {
            framing = h.framing;
            after_head = drop end first ++ later;
            head = record { reads = ReadsResponse-append first h.head (drop end first) later h.accepts.reads; strict = h.accepts.strict; status = h.accepts.status; framed = h.accepts.framed };
            body = body_from_completes limits h.framing (drop end first ++ later) content more (subst (λ (t : List ℕ). Completes (decoder_for limits h.framing) t content more) left (b.reads more));
          } in
          subst (λ (t : List ℕ). ReadsResponseMessage limits Other t (record { head = h.head; body = content }) more) (sym (ap (λ (t : List ℕ). t ++ more) is ∙ append_assoc first piece more)) whole;
      code = sym h.code;
      content = refl;
    }

pub answers_agree : AnswersAgree
answers_agree text more status again body other a b =
    let whole = subst (λ (t : List ℕ). ReadsResponseMessage limits Other t a.message []) (append-nil (text ++ more)) (a.reads []) in
    let same = response_message_unique limits Other (text ++ more) a.message b.message [] more whole (b.reads more) in (
      sym same.1,
      sym b.code ∙ sym (ap (λ (m : Response). status_code m.head) same.0) ∙ a.code,
      sym b.content ∙ sym (ap (λ (m : Response). m.body.bytes) same.0) ∙ a.content,
    )
