use Rattle.std.proofs.Common.{rules, [], ap, sym, ◌∙◌, ◌≡◌, ◌&&◌, not, Bool, true, false}
use Rattle.nmvs_stream.specs.InputLines.{input_lines}
use Rattle.nmvs_stream.proofs.LinesOfPieces.{no_line, line_cut}
use Rattle.nmvs_operator.specs.Users.{says}
use Rattle.nmvs_operator.specs.UsersFaults.{say_nothing}
use Rattle.nmvs_operator.proofs.users_check.changes_nothing.Goals as goal

pub returns-then-says : goal.returns-then-says
returns-then-says c =
    let cut = c.in-Some.ensures in
    let behind = c.in-Some.behind.now in
    let lines = line_cut [] _ behind cut.cut cut.whole in
    let says_it : says c.in-Some.line.now ≡ true = search rules in
    sym (c.loop-line.invariant ∙ ap say_nothing lines ∙ ap (λ (b : Bool). not b && say_nothing (input_lines behind)) says_it)

pub loop-line-preserved : goal.loop-line-preserved
loop-line-preserved c =
    let cut = c.in-Some.ensures in
    let behind = c.in-Some.behind.now in
    let lines = line_cut [] _ behind cut.cut cut.whole in
    let silent : says c.in-Some.line.now ≡ false = search rules in
    c.loop-line.invariant ∙ ap say_nothing lines ∙ ap (λ (b : Bool). not b && say_nothing (input_lines behind)) silent

pub returns : goal.returns
returns c =
    let none = no_line [] c.loop-line.rest.now c.in_default.ensures.none in
    sym (c.loop-line.invariant ∙ ap say_nothing none.0)
