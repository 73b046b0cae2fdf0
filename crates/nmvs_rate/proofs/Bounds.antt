-- The most lines that are let through.
use Rattle.std.proofs.Common.{◌≡◌, ◌≤◌, ◌+◌, ◌-◌, ◌*◌, ℕ, Bool, true, false, if◌then◌else◌, max, List, [], ◌∷◌, length, refl, arith, mul-le-mul_left}
use Rattle.std.specs.List.{All, AllByRecursion}
use Rattle.std.proofs.Math.Nat.{min-le_left, min-le_right}
use Rattle.std.proofs.lemmas.List.Elements.{recursion_from_All}
use Rattle.nmvs_rate.specs.declared.rate.Rate.{Rate}
use Rattle.nmvs_rate.specs.declared.bucket.Bucket.{Bucket}
use Rattle.nmvs_rate.specs.Buckets.{LINE, filled, passes, passing}
use Rattle.nmvs_rate.specs.Laws.{allowed, NeverMore}
use Rattle.nmvs_rate.proofs.Steps.{taken, whole, gained}

-- the parts that a line and those after it take, if those after it take no more than is there and comes in
one_more : (rate : Rate) (bucket : Bucket) (now to : ℕ) → now ≤ to → (later : Bucket → List ℕ)
    → ((b : Bucket) → length (later b) * LINE ≤ b.parts + rate.lines * (to - b.moment))
    → (p : Bool) → passes rate bucket now ≡ p
    → let rest = later (if p then taken rate bucket now else bucket) in
    length (if p then now ∷ rest else rest) * LINE ≤ bucket.parts + rate.lines * (to - bucket.moment)
one_more rate bucket now to within later so true e =
    let rest : length (later (taken rate bucket now)) * LINE ≤ filled rate bucket now - LINE + rate.lines * (to - max bucket.moment now) = so (taken rate bucket now) in
    let there = whole rate bucket now e in
    let most = min-le_left (bucket.parts + rate.lines * (now - bucket.moment)) (rate.burst * LINE) in
    let sum = gained rate.lines bucket.moment now to within in
    omega (arith, rest, there, most, sum)
one_more rate bucket now to within later so false e = so bucket

-- lines take no more than is there and comes in
spent : (rate : Rate) (bucket : Bucket) (to : ℕ) (moments : List ℕ) → AllByRecursion (λ m. m ≤ to) moments
    → length (passing rate bucket moments) * LINE ≤ bucket.parts + rate.lines * (to - bucket.moment)
spent rate bucket to [] within = omega arith
spent rate bucket to (now ∷ later) within =
    one_more rate bucket now to within.0 (λ b. passing rate b later) (λ b. spent rate b to later within.1) (passes rate bucket now) refl

-- the parts that a line between two moments and those after it take, if a line before them takes no more than the rate has
first : (rate : Rate) (bucket : Bucket) (from now to : ℕ) → from ≤ now → now ≤ to → (later : Bucket → List ℕ)
    → ((b : Bucket) → length (later b) * LINE ≤ b.parts + rate.lines * (to - b.moment))
    → length (later bucket) * LINE ≤ allowed rate from to
    → (p : Bool) → passes rate bucket now ≡ p
    → let rest = later (if p then taken rate bucket now else bucket) in
    length (if p then now ∷ rest else rest) * LINE ≤ allowed rate from to
first rate bucket from now to above within later so others true e =
    let rest : length (later (taken rate bucket now)) * LINE ≤ filled rate bucket now - LINE + rate.lines * (to - max bucket.moment now) = so (taken rate bucket now) in
    let there = whole rate bucket now e in
    let most = min-le_right (bucket.parts + rate.lines * (now - bucket.moment)) (rate.burst * LINE) in
    let less : rate.lines * (to - max bucket.moment now) ≤ rate.lines * (to - from) = mul-le-mul_left rate.lines (omega (arith, above)) in
    omega (arith, rest, there, most, less)
first rate bucket from now to above within later so others false e = others

weaker : (from to : ℕ) (moments : List ℕ) → AllByRecursion (λ m. (from ≤ m) × (m ≤ to)) moments → AllByRecursion (λ m. m ≤ to) moments
weaker from to [] within = tt
weaker from to (now ∷ later) within = (within.0.1, weaker from to later within.1)

bounded : (rate : Rate) (bucket : Bucket) (from to : ℕ) (moments : List ℕ) → AllByRecursion (λ m. (from ≤ m) × (m ≤ to)) moments
    → length (passing rate bucket moments) * LINE ≤ allowed rate from to
bounded rate bucket from to [] within = omega arith
bounded rate bucket from to (now ∷ later) within =
    first rate bucket from now to within.0.0 within.0.1 (λ b. passing rate b later) (λ b. spent rate b to later (weaker from to later within.1))
    (bounded rate bucket from to later within.1) (passes rate bucket now) refl

pub never_more : NeverMore
never_more rate bucket from to moments within = bounded rate bucket from to moments (recursion_from_All _ moments within)
