use Rattle.std.proofs.Common.{◌≡◌, ◌∙◌, ap, sym, arith, subst, ℕ, ◌+◌, ◌≤◌, ◌<◌, ◌++◌, ◌∷◌, [], List, map, length, Bool, true, false, not, cond, set, get_or, ◌^◌}
use Rattle.std.specs.List.{All, list_any, position_or_len}
use Rattle.std.proofs.lemmas.List.Elements.{All-set, All-push}
use Rattle.std.proofs.lemmas.Result.{on_ok_weaker}
use Rattle.nmvs_inspect.specs.Groups.{Group, is_in, parts}
use Rattle.nmvs_inspect.proofs.GroupLemmas.{any-keys, place-keys, position-within, with_entry-new, with_entry-more, parts-kept, more}
use Rattle.nmvs_inspect.proofs.groups.count.Goals as goal

not-back : (b r : Bool) → b ≡ not r → b ≡ false → r ≡ true
not-back b true h f = cc
not-back b false h f = absurd (let e : true ≡ false = sym h ∙ f in cc)

not-new : (b r : Bool) → b ≡ not r → b ≡ true → r ≡ false
not-new b true h f = absurd (let e : false ≡ true = sym h ∙ f in cc)
not-new b false h f = cc

below : (gs : List Group) (i j : ℕ) → i ≡ j → j < length gs → i < length gs
below gs i j e l = omega (arith, e, l)

pub add_one-requires-clause-within : goal.add_one-requires-clause-within
add_one-requires-clause-within c =
    let bs = c.args.by.now in
    let d = c.args.found.now in
    let gs = c.args.groups.now.items in
    let any = sym (any-keys bs d c.args.keys.now.keys gs c.in_ok-key.key c.in_ok-key.ensures c.requires.keys) ∙ not-back _ _ c.in_ok-index.ensures.new c.if-is_new.false in
    below gs _ _ (c.in_ok-index.ensures.place ∙ place-keys bs d c.args.keys.now.keys gs c.in_ok-key.key c.in_ok-key.ensures c.requires.keys) (position-within (is_in bs d) gs any)

number-few : (g x : Group) (n : ℕ) → g ≡ x → x.number ≤ n → n + 1 < 2 ^ 64 → g.number + 1 < 2 ^ 64
number-few g x n e few room = let number = ap (λ (y : Group). y.number) e in omega arith

pub add_one-requires-clause-room : goal.add_one-requires-clause-room
add_one-requires-clause-room c = λ g e.
    let bs = c.args.by.now in
    let d = c.args.found.now in
    let gs = c.args.groups.now.items in
    let any = sym (any-keys bs d c.args.keys.now.keys gs c.in_ok-key.key c.in_ok-key.ensures c.requires.keys) ∙ not-back _ _ c.in_ok-index.ensures.new c.if-is_new.false in
    let within = below gs _ _ (c.in_ok-index.ensures.place ∙ place-keys bs d c.args.keys.now.keys gs c.in_ok-key.key c.in_ok-key.ensures c.requires.keys) (position-within (is_in bs d) gs any) in
    number-few g (get_or gs c.in_ok-index.index g) c.args.place e (c.requires.few c.in_ok-index.index g within) c.requires.room

pub returns-then-is_new-clause-groups : goal.returns-then-is_new-clause-groups
returns-then-is_new-clause-groups c =
    let bs = c.args.by.now in
    let d = c.args.found.now in
    let gs = c.args.groups.now.items in
    let any = sym (any-keys bs d c.args.keys.now.keys gs c.in_ok-key.key c.in_ok-key.ensures c.requires.keys) ∙ not-new _ _ c.in_ok-index.ensures.new c.if-is_new.true in
    on_ok_weaker c.append.result (λ h. h ∙ sym (with_entry-new bs gs d any)) c.append.ensures

pub returns-else-is_new-clause-groups : goal.returns-else-is_new-clause-groups
returns-else-is_new-clause-groups c =
    let bs = c.args.by.now in
    let d = c.args.found.now in
    let gs = c.args.groups.now.items in
    let any = sym (any-keys bs d c.args.keys.now.keys gs c.in_ok-key.key c.in_ok-key.ensures c.requires.keys) ∙ not-back _ _ c.in_ok-index.ensures.new c.if-is_new.false in
    let at = c.in_ok-index.ensures.place ∙ place-keys bs d c.args.keys.now.keys gs c.in_ok-key.key c.in_ok-key.ensures c.requires.keys in
    c.add_one.ensures d ∙ ap (λ (i : ℕ). set gs i (more (get_or gs i d))) at ∙ sym (with_entry-more bs gs d d any)

pub returns-else-is_new-clause-keys : goal.returns-else-is_new-clause-keys
returns-else-is_new-clause-keys c =
    let bs = c.args.by.now in
    let gs = c.args.groups.now.items in
    ap (map (λ k. k.items)) (c.in_ok-index.ensures.keys ∙ ap (λ (b : Bool). cond b (c.args.keys.now.keys ++ c.in_ok-key.key ∷ []) c.args.keys.now.keys) c.if-is_new.false)
    ∙ c.requires.keys ∙ sym (parts-kept bs gs c.in_ok-index.index c.args.found.now) ∙ sym (ap (map (parts bs)) (c.add_one.ensures c.args.found.now))

few-more : (gs : List Group) (i n : ℕ) (x : Group) → i < length gs → All (λ g. g.number ≤ n) gs → All (λ g. g.number ≤ n + 1) (set gs i (more (get_or gs i x)))
few-more gs i n x l few =
    All-set (λ (g : Group). g.number ≤ n + 1) gs i (more (get_or gs i x)) (let h = few i x l in omega arith) (λ k d m. let h = few k d m in omega arith)

pub returns-else-is_new-clause-few : goal.returns-else-is_new-clause-few
returns-else-is_new-clause-few c =
    let bs = c.args.by.now in
    let d = c.args.found.now in
    let gs = c.args.groups.now.items in
    let any = sym (any-keys bs d c.args.keys.now.keys gs c.in_ok-key.key c.in_ok-key.ensures c.requires.keys) ∙ not-back _ _ c.in_ok-index.ensures.new c.if-is_new.false in
    let within = below gs _ _ (c.in_ok-index.ensures.place ∙ place-keys bs d c.args.keys.now.keys gs c.in_ok-key.key c.in_ok-key.ensures c.requires.keys) (position-within (is_in bs d) gs any) in
    let P : List Group → Type 0 = λ xs. All (λ g. g.number ≤ c.args.place + 1) xs in
    subst P (sym (c.add_one.ensures c.args.found.now)) (few-more gs c.in_ok-index.index c.args.place c.args.found.now within c.requires.few)

few-new : (gs : List Group) (n : ℕ) (d : Group) → d.number ≡ 1 → All (λ g. g.number ≤ n) gs → All (λ g. g.number ≤ n + 1) (gs ++ d ∷ [])
few-new gs n d one few =
    All-push (λ (g : Group). g.number ≤ n + 1) gs d (λ k x m. let h = few k x m in omega arith) (omega (arith, one))

pub returns-then-is_new-clause-few : goal.returns-then-is_new-clause-few
returns-then-is_new-clause-few c =
    let P : List Group → Type 0 = λ xs. All (λ g. g.number ≤ c.args.place + 1) xs in
    on_ok_weaker c.append.result
    (λ h. subst P (sym h) (few-new c.args.groups.now.items c.args.place c.args.found.now c.requires.single c.requires.few)) c.append.ensures
