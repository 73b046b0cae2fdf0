-- All faults of a users file, line by line.
use Rattle.std.proofs.Common.{◌≡◌, ◌∙◌, ◌+◌, ◌<◌, ◌++◌, ◌∷◌, ℕ, List, [], length, length-append, map, codes, refl, ap, arith}
use Rattle.std.proofs.lemmas.List.{append_assoc}
use Rattle.nmvs_stream.specs.InputLines.{input_lines, unfinished_line}
use Rattle.nmvs_operator.specs.UsersFaults.{shown, line_faults, lines_faults, end_faults, faults_from, fault_line, fault_lines, faults_text, told_faults}
use Rattle.nmvs_operator.specs.declared.faults.LoadFault.{LoadFault}
use Rattle.nmvs_operator.specs.declared.users_check.UsersFault.{UsersFault}
use Rattle.nmvs_operator.specs.declared.faults.LoadFault.TheVariants.{Unended}

-- the faults of a line and of the bytes after it
pub faults_from-line : (number : ℕ) (rest line behind : List ℕ)
    → input_lines rest ≡ line ∷ input_lines behind → unfinished_line rest ≡ unfinished_line behind
    → faults_from number rest ≡ line_faults number line ++ faults_from (number + 1) behind
faults_from-line number rest line behind cut left =
    let more = lines_faults (number + 1) (input_lines behind) in
    let count : number + length (line ∷ input_lines behind) ≡ (number + 1) + length (input_lines behind) = omega arith in
    (λ i. lines_faults number (cut i) ++ end_faults (number + length (cut i)) (left i))
    ∙ append_assoc (line_faults number line) more (end_faults (number + length (line ∷ input_lines behind)) (unfinished_line behind))
    ∙ ap (λ (n : ℕ). line_faults number line ++ (more ++ end_faults n (unfinished_line behind))) count

-- the faults of bytes without a whole line
pub faults_from-end : (number : ℕ) (rest : List ℕ) → input_lines rest ≡ [] → unfinished_line rest ≡ rest
    → faults_from number rest ≡ end_faults number rest
faults_from-end number rest none whole =
    let same : number + 0 ≡ number = omega arith in
    (λ i. lines_faults number (none i) ++ end_faults (number + length (none i)) (whole i))
    ∙ ap (λ (n : ℕ). end_faults n rest) same

-- the fault of bytes after the last LF
pub end_faults-some : (number : ℕ) (rest : List ℕ) → 0 < length rest → end_faults number rest ≡ (Unended number, rest) ∷ []
end_faults-some number [] some = absurd (omega (arith, some))
end_faults-some number (b ∷ bs) some = refl

-- the lines about faults, one by one
pub told_lines : (faults : List UsersFault) → told_faults faults ≡ fault_lines (map shown faults)
told_lines [] = refl
told_lines (f ∷ faults) = ap (λ (t : List ℕ). fault_line (shown f) ++ t) (told_lines faults)

-- if the text about faults is not empty, there are some
pub faults_text-some : (faults : List (LoadFault × List ℕ)) → 0 < length (faults_text faults)
    → (0 < length faults) × (faults_text faults ≡ fault_lines faults ++ codes "FAULT USERS\n")
faults_text-some [] some = absurd (omega (arith, some))
faults_text-some (f ∷ faults) some = (omega arith, refl)

-- if the text about faults is empty, there are none
pub faults_text-none : (faults : List (LoadFault × List ℕ)) → length (faults_text faults) ≡ 0 → faults ≡ []
faults_text-none [] none = refl
faults_text-none (f ∷ faults) none =
    let counted = length-append (fault_lines (f ∷ faults)) (codes "FAULT USERS\n") in absurd (omega (arith, none, counted))

-- the text about these faults, if there are some, and if there are none
pub faults_text-told : (found : List UsersFault) (faults : List (LoadFault × List ℕ)) (text : List ℕ) → map shown found ≡ faults → 0 < length found
    → text ≡ told_faults found ++ codes "FAULT USERS\n" → text ≡ faults_text faults
faults_text-told [] faults text is some now = absurd (omega (arith, some))
faults_text-told (f ∷ found) faults text is some now =
    now ∙ ap (λ (t : List ℕ). t ++ codes "FAULT USERS\n") (told_lines (f ∷ found)) ∙ ap faults_text is

pub faults_text-empty : (found : List UsersFault) (faults : List (LoadFault × List ℕ)) → map shown found ≡ faults → length found ≡ 0 → [] ≡ faults_text faults
faults_text-empty [] faults is none = ap faults_text is
faults_text-empty (f ∷ found) faults is none = absurd (omega (arith, none))
