use Rattle.std.proofs.Common.{◌∙◌, ◌++◌, ap, subst, List, ℕ, append_assoc}
use Rattle.std.proofs.lemmas.Result.{on_ok_weaker}
use Rattle.nmvs_stream.specs.Delivery.{Delivers}
use Rattle.nmvs_inspect.specs.Groups.{groups_of}
use Rattle.nmvs_inspect.specs.Page.{alerts_text, by_week, front_text, premises_text, weeks_text}
use Rattle.nmvs_inspect.proofs.page.write_page.Goals as goal

pub returns : goal.returns
returns g c =
    let delivered : List ℕ → Type 0 = λ x. Delivers (g.W.Sink.taken c.args.sink.now) (g.W.Sink.taken c.write_alerts.new.sink) x in
    let told = c.in_ok-append_weeks.ensures in
    let most = c.in_ok-append_most.ensures in
    let front = front_text c.args.verdict.now c.args.shard.now c.args.codes.now in
    let weeks = weeks_text (groups_of by_week told.0) in
    let first = c.in_ok-append_front.ensures ∙ ap (λ (x : List ℕ). x ++ front) c.new-block.ensures.items in
    let premises = premises_text most.0 in
    let block = most.2 ∙ ap (λ (x : List ℕ). x ++ premises) (told.2 ∙ ap (λ (x : List ℕ). x ++ weeks) first) in
    on_ok_weaker c.write_alerts.result
    (λ h. (
      told.0,
      told.1,
      (
        most.0,
        most.1,
        (
          h.0,
          h.1,
          subst delivered
              (ap (λ (x : List ℕ). x ++ alerts_text h.0) block ∙ append_assoc (front ++ weeks) premises (alerts_text h.0)
              ∙ append_assoc front weeks (premises ++ alerts_text h.0)) h.2,
        ),
      ),
    ))
    c.write_alerts.ensures
