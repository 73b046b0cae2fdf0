-- The import of a part: its lines are read back, and each reply is judged again by the rules on the part's entries (own).
use Rattle.std.specs.Prelude.{◌≡◌, ◌<◌, ◌≤◌, ◌+◌, ℕ, List, ◌∷◌, ◌++◌, [], length, map, All, Option, Some, None, false, true}
use Rattle.std.specs.List.{flat_map}
use Rattle.nmvs_stream.specs.InputLines.{HasNoLf}
use Rattle.nmvs_stream.specs.Source.{Told}
use Rattle.nmvs_rules.specs.declared.entry.Entry.{Entry}
use Rattle.nmvs_rules.specs.Entries.{AreEntries}
use Rattle.nmvs_rules.specs.Repeats.{AreNew}
use Rattle.nmvs_rules.specs.Rules.{IsLawful}
use Rattle.nmvs_shard.specs.Repeated.{FirstRepeated}
use Rattle.nmvs_line.specs.Line.{longest_line}
use Rattle.nmvs_reader.specs.Lines.{Written, written_line, Imported, IsImportOf}
use Rattle.nmvs_reader.specs.declared.objection.Objection.{Objection}
use Rattle.nmvs_record.specs.declared.finding.Finding.{Finding}
use Rattle.nmvs_record.specs.declared.finding.Finding.TheVariants as found
use Rattle.nmvs_record.specs.Import.{CannotRead, IsBehind, Objects}
use Rattle.nmvs_parts.specs.Part.{PartView, is_others, own_lines}
use Rattle.nmvs_parts.specs.declared.examination.PartImport.{PartImport}

-- the text of lines, each with its LF
abbrev pub ended : List ℕ → List ℕ
ended line = line ++ 10 ∷ []

abbrev pub text_of : List (List ℕ) → List ℕ
text_of lines = flat_map ended lines

-- the part's own lines among these are those of entries of a lawful trail
pub record AreLawful (part : PartView) (lines : List (List ℕ)) (it : Imported) : Type 0 where
  pub own : List Written
  pub these : own_lines part lines ≡ map written_line own
  pub are : IsImportOf it own
  pub lawful : IsLawful it.trail
  pub in_range : AreEntries it.trail

-- the line of this number is the part's own, and before it stand this many of its own
pub record IsNumbered (part : PartView) (lines : List (List ℕ)) (place number : ℕ) : Type 0 where
  pub before : List (List ℕ)
  pub line : List ℕ
  pub after : List (List ℕ)
  pub these : lines ≡ before ++ line ∷ after
  pub own : is_others part line ≡ false
  pub earlier : place ≡ length (own_lines part before)
  pub count : number ≡ length before + 1

-- the number of the line of the part's first entry whose question was asked before with its tag; None if each was new
abbrev pub IsRepeatedLine : PartView → List (List ℕ) → List Entry → Option ℕ → Type 0
IsRepeatedLine part lines t None = AreNew t
IsRepeatedLine part lines t (Some number) = (place : ℕ) × FirstRepeated t (Some place) × IsNumbered part lines place number

-- a part took its own of these lines
pub record HasTaken (part : PartView) (lines : List (List ℕ)) (p : PartImport) : Type 0 where
  pub taken : AreLawful part lines p.importer
  pub repeated : IsRepeatedLine part lines p.importer.trail p.repeated

-- an input is these lines, and the beginning of one more line, which has not become too long
pub record IsText (input : List ℕ) (lines : List (List ℕ)) (begun : List ℕ) : Type 0 where
  pub these : input ≡ text_of lines ++ begun
  pub each : All HasNoLf lines
  pub one : HasNoLf begun
  pub short : length begun ≤ longest_line

-- an input is lines, of which a part took its own, and the beginning of one more line
pub record Begins (part : PartView) (input : List ℕ) (p : PartImport) (begun : List ℕ) : Type 0 where
  pub lines : List (List ℕ)
  pub text : IsText input lines begun
  pub count : p.lines ≡ length lines
  pub has : HasTaken part lines p

-- an input begins with lines, of which the part's own are lawful; to the next one, of this number, there is an objection
pub record StopsAtLine (part : PartView) (input : List ℕ) (number : ℕ) (objection : Objection) : Type 0 where
  pub before : List (List ℕ)
  pub line : List ℕ
  pub behind : List ℕ
  pub it : Imported
  pub lawful : AreLawful part before it
  pub these : input ≡ text_of before ++ (line ++ behind)
  pub each : All HasNoLf before
  pub one : HasNoLf line
  pub own : is_others part line ≡ false
  pub cut : IsBehind objection behind
  pub count : number ≡ length before + 1
  pub objects : Objects it.trail line objection

-- a finding in lines, before any read fails and before the end
abbrev pub Stops : PartView → List ℕ → Finding → Type 0
Stops part input (found.Line number objection) = StopsAtLine part input number objection
Stops part input _ = ⊥

-- the finding at the line after these
abbrev pub ObjectsNext : PartView → List (List ℕ) → List ℕ → Finding → Type 0
ObjectsNext part lines line (found.Line number objection) =
    (it : Imported) × AreLawful part lines it × (number ≡ length lines + 1) × (is_others part line ≡ false) × Objects it.trail line objection
ObjectsNext part lines line _ = ⊥

-- the meaning of a finding of a part
abbrev pub Finds : PartView → Told → Told → ℕ → List ℕ → Finding → Type 0
Finds part source source' reads input found.Read = (p : PartImport) × (begun : List ℕ) × Begins part input p begun × CannotRead source source' reads
Finds part source source' reads input (found.Unended number) =
    (p : PartImport) × (begun : List ℕ) × Begins part input p begun × (0 < length begun) × (number ≡ p.lines + 1) × (source'.ended ≡ true)
Finds part source source' reads input (found.Line number objection) = StopsAtLine part input number objection

-- this was found in the bytes that were read
pub record FailsToImport (part : PartView) (source source' : Told) (reads : ℕ) (finding : Finding) : Type 0 where
  pub input : List ℕ
  pub read : source'.bytes ≡ source.bytes ++ input
  pub finds : Finds part source source' reads input finding

-- the bytes that were read, to their end, are lines, of which a part took its own
pub record Imports (part : PartView) (source source' : Told) (p : PartImport) : Type 0 where
  pub input : List ℕ
  pub read : source'.bytes ≡ source.bytes ++ input
  pub ended : source'.ended ≡ true
  pub begins : Begins part input p []
