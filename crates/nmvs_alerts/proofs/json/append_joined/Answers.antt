use Rattle.std.proofs.Common.{◌≡◌, ◌≤◌, ◌∙◌, ◌++◌, ◌-◌, ℕ, List, Bor, ap, arith, drop, get_or, length, map, subst, take}
use Rattle.std.specs.Prelude.{OnOk}
use Rattle.std.specs.List.{flat_map}
use Rattle.std.proofs.lemmas.List.{get_or_default}
use Rattle.nmvs_alerts.specs.Json.{joined, led}
use Rattle.nmvs_alerts.proofs.JsonLemmas.{all-led, onward}
use Rattle.nmvs_alerts.proofs.json.append_joined.Goals as goal

first-led : (xs : List (Bor (List ℕ))) (d : Bor (List ℕ)) → 1 ≤ length xs
    → (get_or xs 0 d).now ++ flat_map (λ text. led (λ bytes. bytes) text.now) (take (length xs - 1) (drop 1 xs)) ≡ joined (λ text. text) (map (λ text. text.now) xs)
first-led xs d some = all-led (λ (bytes : List ℕ). bytes) xs (get_or xs 0 d) some (get_or_default xs 0 d (get_or xs 0 d) (omega (arith, some)))

pub returns : goal.returns
returns c =
    subst (λ (text : List ℕ). OnOk c.append_all_led.result (c.append_all_led.new.block.items ≡ text))
    (onward c.args.block.now.items _ c.in_ok-append.ensures _
    ∙ ap (λ (text : List ℕ). c.args.block.now.items ++ text) (first-led c.args.texts.now _ c.in-len1-up.len_at_least))
    c.append_all_led.ensures
