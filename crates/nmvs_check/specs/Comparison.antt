-- The answers about two exports that are compared (own).
use Rattle.std.specs.Prelude.{ℕ, ◌-◌, Bool, true, false, List, ◌++◌, length, codes, decimal, Option, Some, None}
use Rattle.nmvs_stream.specs.Delivery.{Delivers}
use Rattle.nmvs_stream.specs.Sink.{Taken}
use Rattle.nmvs_rules.specs.declared.entry.Entry.{Entry}
use Rattle.nmvs_rules.specs.Questions.{code_of}
use Rattle.nmvs_line.specs.Line.{entry_line}
use Rattle.nmvs_inspect.specs.Comparison.{GoesOn, Departs}
use Rattle.nmvs_inspect.specs.declared.comparison.Departure.{Departure}
use Rattle.nmvs_check.specs.Answers.{codes_named}

-- the number of product codes that the old trail names, of its entries, and of the further entries of the new one
abbrev pub on_text : List Entry → List Entry → List ℕ
on_text old new =
    codes "GOES ON PRODUCTS " ++ (decimal (length (codes_named old)) ++ (codes " ENTRIES " ++ (decimal (length old) ++ (codes " MORE " ++ (decimal (length new - length old) ++ codes "\n")))))

-- the line that the new trail has in the place of the old one, or that it has none
abbrev pub found_text : Option Entry → List ℕ
found_text (Some e) = codes "\nNEW " ++ (entry_line e ++ codes "\n")
found_text None = codes "\nENDS\n"

-- the number and the product code of the old line, that line, and the line that the new trail has in its place, if any
abbrev pub departure_text : Departure → List ℕ
departure_text d =
    codes "DEPARTS " ++ (decimal d.number ++ (codes " " ++ ((code_of d.entry.put.question).bytes ++ (codes "\nOLD " ++ (entry_line d.entry ++ found_text d.found)))))

-- the answer that a sink took between these two states: that the new trail goes on from the old one, or where
-- it first departs
abbrev pub Tells : List Entry → List Entry → Bool → Taken → Taken → Type 0
Tells old new true before after = GoesOn old new × Delivers before after (on_text old new)
Tells old new false before after = (d : Departure) × Departs old new d × Delivers before after (departure_text d)
