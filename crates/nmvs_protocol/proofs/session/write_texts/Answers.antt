use Rattle.std.proofs.Common.{◌∙◌, ◌++◌, ◌∷◌, [], List, length, map, refl, sym, ap, subst, arith}
use Rattle.std.proofs.lemmas.List.{append-nil, append_assoc}
use Rattle.nmvs_messages.specs.declared.answer.Answer.{Answer}
use Rattle.nmvs_stream.specs.Delivery.{DeliversPart}
use Rattle.nmvs_protocol.specs.Progress.{Gathers}
use Rattle.nmvs_protocol.specs.Session.{session_text}
use Rattle.nmvs_protocol.specs.Texts.{bare, ends_with_reply}
use Rattle.nmvs_protocol.proofs.SessionTelling.{bare_broken, bare_more, ends_push, on_err}
use Rattle.nmvs_protocol.proofs.session.write_texts.Goals as goal

pub loop-answer-init : goal.loop-answer-init
loop-answer-init g c = ([], refl, record { bytes = sym (append-nil _); flushed = λ none. refl; failed = refl }, refl)

pub returns-in_err-write_text-clause-err : goal.returns-in_err-write_text-clause-err
returns-in_err-write_text-clause-err g c =
    let taken = g.W.Sink.taken in
    let told = c.loop-answer.invariant.0 in
    let whole = ap (λ (r : List Answer). told ++ r) (sym c.in-Some.ensures.first) ∙ c.loop-answer.invariant.1 in
    on_err c.from_residual.result (subst (λ (r : List Answer). DeliversPart (taken c.args.sink.now) (taken c.write_text.new.sink) (session_text (map bare r))) whole
    (bare_broken (taken c.args.sink.now) (taken c.loop-answer.sink) (taken c.write_text.new.sink) told _ _ c.loop-answer.invariant.2 c.in_err-write_text.ensures.err))

pub loop-answer-preserved : goal.loop-answer-preserved
loop-answer-preserved g c =
    let taken = g.W.Sink.taken in
    let told = c.loop-answer.invariant.0 in
    let a = c.in-Some.answer.now in
    let later = c.in-Some.later in (
      told ++ a ∷ [],
      append_assoc told (a ∷ []) later ∙ ap (λ (r : List Answer). told ++ r) (sym c.in-Some.ensures.first) ∙ c.loop-answer.invariant.1,
      bare_more (taken c.args.sink.now) (taken c.loop-answer.sink) (taken c.write_text.new.sink) told a c.loop-answer.invariant.2 c.in_ok-write_text.ensures.ok,
      c.is_of_repository-replied.ensures ∙ sym (ends_push told a),
    )

pub loop-answer-smaller : goal.loop-answer-smaller
loop-answer-smaller g c = let n = ap length c.in-Some.ensures.first in omega arith

pub returns-clause-ok : goal.returns-clause-ok
returns-clause-ok g c =
    let taken = g.W.Sink.taken in
    let told = c.loop-answer.invariant.0 in
    let whole = sym (append-nil told) ∙ ap (λ (r : List Answer). told ++ r) (sym c.in_default.ensures.none) ∙ c.loop-answer.invariant.1 in
    subst (λ (r : List Answer). Gathers (taken c.args.sink.now) (taken c.loop-answer.sink) (map bare r)) whole c.loop-answer.invariant.2

pub returns-clause-replied : goal.returns-clause-replied
returns-clause-replied g c =
    let told = c.loop-answer.invariant.0 in
    let whole = sym (append-nil told) ∙ ap (λ (r : List Answer). told ++ r) (sym c.in_default.ensures.none) ∙ c.loop-answer.invariant.1 in
    c.loop-answer.invariant.3 ∙ ap ends_with_reply whole
