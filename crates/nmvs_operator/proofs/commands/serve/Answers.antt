use Rattle.std.proofs.Common.{rules, ◌≡◌, ◌<◌, ◌++◌, [], ℕ, List, length, Ok, Err, ap, refl, subst, codes}
use Rattle.nmvs_operator.specs.declared.faults.ObeyFault.TheVariants as obey
use Rattle.nmvs_operator.specs.declared.figures.Figure.{Figure}
use Rattle.nmvs_operator.specs.Figures.{figure_lines}
use Rattle.nmvs_operator.specs.Commands.{saying}
use Rattle.nmvs_operator.proofs.CommandLemmas.{tells}
use Rattle.nmvs_operator.proofs.commands.serve.Goals as goal

pub returns-in-Err : goal.returns-in-Err
returns-in-Err g c = (
  saying [] (Err (obey.Undone c.in-Err.fault)),
  (c.in-Err.ensures.does, refl),
  tells c.fault_text.ensures c.tell.ensures,
  refl,
)

pub returns-in-Err-figures_text : goal.returns-in-Err-figures_text
returns-in-Err-figures_text g c =
    let some = subst (λ (f : List Figure). 0 < length f) c.deref.ensures.value c.in-Err-figures_text.ensures.memory in (
      saying [] (Err obey.Memory),
      ((c.in-Ok.figures.items, c.in-Ok.ensures.does, c.in-Ok.ensures.figures, some), refl),
      tells c.fault_text-in-Err-figures_text.ensures c.tell-in-Err-figures_text.ensures,
      refl,
    )

pub returns : goal.returns
returns g c =
    let lines = figure_lines c.in-Ok.figures.items in
    let text : c.deref-in-Ok-figures_text.result.now ≡ lines = search rules in (
      saying lines (Ok c.args.order.now),
      (refl, (c.in-Ok.figures.items, c.in-Ok.ensures.does, c.in-Ok.ensures.figures, refl)),
      tells (ap (λ (l : List ℕ). l ++ codes "DONE\n") text) c.tell_lines.ensures,
      c.ends.ensures,
    )
