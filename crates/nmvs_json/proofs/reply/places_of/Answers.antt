use Rattle.std.proofs.Common.{rules, ◌≡◌, ◌∙◌, Bor, ℕ, List, map, Option, Some, None, option_map, ap, refl}
use Rattle.std.specs.Prelude.{find}
use Rattle.std.specs.Str.{bytes_eq}
use Rattle.nmvs_json.specs.declared.reply.Place.{Place}
use Rattle.nmvs_json.specs.Places.{place_of}
use Rattle.nmvs_json.specs.Replies as specs
use Rattle.nmvs_json.specs.Replies.{places_of, rows}
use Rattle.nmvs_json.proofs.ReplyLemmas.{find_view}
use Rattle.nmvs_json.proofs.reply.places_of.Goals as goal

abbrev Row : Type 0
Row = Bor (List ℕ) × Bor (List Place)

-- a row as specs have it
abbrev row_of : Row → List ℕ × List specs.Place
row_of row = (row.0.now, map place_of row.1.now)

places_view : (o : Option Row) → option_map (λ (places : Bor (List Place)). map place_of places.now) (option_map (λ (row : Row). row.1) o) ≡ option_map (λ (row : List ℕ × List specs.Place). row.1) (option_map row_of o)
places_view None = refl
places_view (Some row) = refl

table : (word : List ℕ) (its : List Row) (found : Option (Bor (List Place))) → found ≡ option_map (λ (row : Row). row.1) (find (λ (row : Row). bytes_eq word row.0.now) its) → map row_of its ≡ rows
    → option_map (λ (places : Bor (List Place)). map place_of places.now) found ≡ places_of word
unfolding places_of
table word its found is same =
    ap (λ (o : Option (Bor (List Place))). option_map (λ (places : Bor (List Place)). map place_of places.now) o) is
    ∙ places_view (find (λ (row : Row). bytes_eq word row.0.now) its)
    ∙ ap (λ (o : Option (List ℕ × List specs.Place)). option_map (λ (row : List ℕ × List specs.Place). row.1) o) (find_view row_of (λ (row : Row). bytes_eq word row.0.now) (λ (row : List ℕ × List specs.Place). bytes_eq word row.0) (λ row. refl) its)
    ∙ ap (λ (rs : List (List ℕ × List specs.Place)). specs.named rs word) same

pub returns : goal.returns
returns c = search (rules, table)
