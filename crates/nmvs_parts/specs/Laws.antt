-- The laws of the parts of an export: together they say what one check of the whole says (own).
use Rattle.std.specs.Prelude.{◌<◌, ◌≤◌, ◌⊎◌, ◌↔◌, ℕ, List}
use Rattle.nmvs_reader.specs.declared.objection.Objection.{Objection}
use Rattle.nmvs_reader.specs.Lines.{Imported}
use Rattle.nmvs_record.specs.Import as whole
use Rattle.nmvs_parts.specs.Part.{PartView}
use Rattle.nmvs_parts.specs.Import.{IsText, AreLawful, StopsAtLine}

-- the part with this remainder, of this number of parts
abbrev pub part_of : ℕ → ℕ → PartView
part_of count index = record { index = index; count = count }

-- an input is lines, of which the part's own are lawful, and the beginning of one more line
pub record Accepts (part : PartView) (input begun : List ℕ) : Type 0 where
  pub it : Imported
  pub lines : List (List ℕ)
  pub text : IsText input lines begun
  pub lawful : AreLawful part lines it

-- each part accepts an input exactly if the whole is accepted; what is begun after the last line is the same
abbrev pub PartsAreWhole : Type 0
PartsAreWhole =
    (count : ℕ) → 0 < count → (input begun : List ℕ)
    → ((index : ℕ) → index < count → Accepts (part_of count index) input begun) ↔ ((it : Imported) × whole.Begins input it begun)

-- a part accepts the lines before that of this number: it accepts all, or stops at that line or a later one
abbrev pub GoesTo : PartView → List ℕ → ℕ → Type 0
GoesTo part input number =
    ((begun : List ℕ) × Accepts part input begun) ⊎ ((later : ℕ) × (objection : Objection) × StopsAtLine part input later objection × (number ≤ later))

-- the first line at which a part stops is the line at which the whole stops, with the same objection
abbrev pub FirstIsWhole : Type 0
FirstIsWhole =
    (count : ℕ) (input : List ℕ) (index number : ℕ) (objection : Objection) → index < count → StopsAtLine (part_of count index) input number objection
    → ((other : ℕ) → other < count → GoesTo (part_of count other) input number) → whole.StopsAtLine input number objection
