use Rattle.std.proofs.Common.{rules, ◌≡◌, ◌∙◌, Bor, ℕ, List, map, Option, Some, None, option_map, ap, refl}
use Rattle.std.specs.Prelude.{find}
use Rattle.std.specs.Str.{bytes_eq}
use Rattle.nmvs_json.specs.Replies as specs
use Rattle.nmvs_json.specs.Replies.{detail_named, details}
use Rattle.nmvs_json.proofs.ReplyLemmas.{find_view}
use Rattle.nmvs_json.proofs.reply.detail_named.Goals as goal

abbrev Row : Type 0
Row = Bor (List ℕ) × Bor (List ℕ)

-- a row as specs have it
abbrev row_of : Row → List ℕ × List ℕ
row_of row = (row.0.now, row.1.now)

details_view : (o : Option Row) → option_map (λ (detail : Bor (List ℕ)). detail.now) (option_map (λ (row : Row). row.1) o) ≡ option_map (λ (row : List ℕ × List ℕ). row.1) (option_map row_of o)
details_view None = refl
details_view (Some row) = refl

table : (fault : List ℕ) (its : List Row) (found : Option (Bor (List ℕ))) → found ≡ option_map (λ (row : Row). row.1) (find (λ (row : Row). bytes_eq fault row.0.now) its) → map row_of its ≡ details
    → option_map (λ (detail : Bor (List ℕ)). detail.now) found ≡ detail_named fault
unfolding detail_named
table fault its found is same =
    ap (λ (o : Option (Bor (List ℕ))). option_map (λ (detail : Bor (List ℕ)). detail.now) o) is
    ∙ details_view (find (λ (row : Row). bytes_eq fault row.0.now) its)
    ∙ ap (λ (o : Option (List ℕ × List ℕ)). option_map (λ (row : List ℕ × List ℕ). row.1) o) (find_view row_of (λ (row : Row). bytes_eq fault row.0.now) (λ (row : List ℕ × List ℕ). bytes_eq fault row.0) (λ row. refl) its)
    ∙ ap (λ (rs : List (List ℕ × List ℕ)). specs.named rs fault) same

pub returns : goal.returns
returns c = search (rules, table)
