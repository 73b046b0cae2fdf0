use Rattle.std.proofs.Common.{◌≡◌, ◌≢◌, ◌<◌, ◌∙◌, ◌++◌, ◌∷◌, [], List, ℕ, length, refl, sym, ap, subst, arith}
use Rattle.std.proofs.lemmas.Bool.{eqb-true, eqb-false}
use Rattle.std.proofs.lemmas.List.{append-nil, length-append}
use Rattle.nmvs_stream.specs.Delivery.{Writes, DeliversPart}
use Rattle.nmvs_stream.specs.Sink.{Taken}
use Rattle.nmvs_protocol.proofs.SessionTelling.{on_err, piece_broken, piece_cut, writes_more}
use Rattle.nmvs_protocol.proofs.session.write_list.Goals as goal

-- (over plain numbers and lists, so that no tactic reads all that is known at a goal)
some_left : (n : ℕ) → n ≢ 0 → 0 < n
some_left n some = omega arith

fewer_left : (piece left' left : List ℕ) → piece ++ left' ≡ left → 0 < length piece → length left' < length left
fewer_left piece left' left cut some = let n = ap (λ (l : List ℕ). length l) cut in omega (arith, n, length-append piece left')

all_written : (old new : Taken) (before left all : List ℕ) → before ++ left ≡ all → length left ≡ 0 → Writes old new before → Writes old new all
all_written old new before [] all whole none w = subst (λ (t : List ℕ). Writes old new t) (sym (append-nil before) ∙ whole) w
all_written old new before (x ∷ xs) all whole none w = absurd (omega (arith, none))

pub loop-list-init : goal.loop-list-init
loop-list-init g c = ([], refl, record { bytes = sym (append-nil _); flushed = λ none. refl; failed = refl })

pub loop-list-smaller : goal.loop-list-smaller
loop-list-smaller g c =
    let left = g.D.List.LineList.left in
    let some = some_left _ (eqb-false (length (left c.loop-list.list)) 0 (sym c.is_empty.ensures ∙ c.loop-list-test.true)) in
    fewer_left _ _ _ c.fetch.ensures.text (c.fetch.ensures.some some)

pub loop-list-preserved : goal.loop-list-preserved
loop-list-preserved g c =
    let taken = g.W.Sink.taken in
    let left = g.D.List.LineList.left in
    let inv = c.loop-list.invariant in
    let piece = c.fetch.new.piece.text.items in
    let written = subst (λ (t : List ℕ). Writes (taken c.loop-list.sink) (taken c.write_all.new.sink) t) c.as_slice.ensures.value c.in_ok-write_all.ensures.ok in (
      inv.0 ++ piece,
      piece_cut inv.0 piece (left c.loop-list.list) (left c.fetch.new.list) (left c.args.list) inv.1 c.fetch.ensures.text,
      writes_more (taken c.args.sink.now) (taken c.loop-list.sink) (taken c.write_all.new.sink) inv.0 piece inv.2 written,
    )

pub returns-clause-ok : goal.returns-clause-ok
returns-clause-ok g c =
    let taken = g.W.Sink.taken in
    let left = g.D.List.LineList.left in
    let inv = c.loop-list.invariant in
    all_written (taken c.args.sink.now) (taken c.loop-list.sink) inv.0 (left c.loop-list.list) (left c.args.list) inv.1
    (eqb-true (length (left c.loop-list.list)) 0 (sym c.is_empty.ensures ∙ c.loop-list-test.false)) inv.2

pub returns-in_err-write_all-clause-err : goal.returns-in_err-write_all-clause-err
returns-in_err-write_all-clause-err g c =
    let taken = g.W.Sink.taken in
    let left = g.D.List.LineList.left in
    let inv = c.loop-list.invariant in
    let part = subst (λ (t : List ℕ). DeliversPart (taken c.loop-list.sink) (taken c.write_all.new.sink) t) c.as_slice.ensures.value c.in_err-write_all.ensures.err in
    on_err c.from_residual.result
    (piece_broken (taken c.args.sink.now) (taken c.loop-list.sink) (taken c.write_all.new.sink) inv.0 c.fetch.new.piece.text.items (left c.loop-list.list) (left c.fetch.new.list) (left c.args.list)
    inv.1 c.fetch.ensures.text inv.2 part)
