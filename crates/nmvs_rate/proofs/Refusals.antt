-- The moment since which a refused line is one too many.
use Rattle.std.proofs.Common.{◌≡◌, ◌⊎◌, ◌≤◌, ◌<◌, ◌+◌, ◌-◌, ◌*◌, ◌∙◌, ℕ, Bool, true, false, cond, if◌then◌else◌, nat_le, max, List, [], ◌∷◌, ◌++◌, refl, inl, inr, sym, ap, subst, arith, mul-add, mul-zero, append_assoc, append-nil}
use Rattle.std.specs.List.{count_by}
use Rattle.std.proofs.lemmas.Bool.{cases_lt, le-leb}
use Rattle.std.proofs.lemmas.List.Sums.{sum_by-append, sum_by-cons}
use Rattle.nmvs_rate.specs.declared.rate.Rate.{Rate}
use Rattle.nmvs_rate.specs.declared.bucket.Bucket.{Bucket}
use Rattle.nmvs_rate.specs.Buckets.{LINE, full, filled, passes, passing, after_all}
use Rattle.nmvs_rate.specs.Laws.{allowed, Ascends, NeverFewer}
use Rattle.nmvs_rate.proofs.Steps.{taken, whole, less}

-- of lines that were let through at these moments and those that are left, there are as many since a moment as the rate has
record UsesAll (rate : Rate) (bucket : Bucket) (past : List ℕ) : Type 0 where
  pub from : ℕ
  pub before : from ≤ bucket.moment
  pub all : allowed rate from bucket.moment ≤ bucket.parts + count_by (nat_le from) past * LINE

-- a line that is refused after these lines, of which those before were let through, would be one more than the rate has
abbrev OneTooMany : Rate → List ℕ → ℕ → Type 0
OneTooMany rate passed now = (from : ℕ) × (from ≤ now) × (allowed rate from now < (count_by (nat_le from) passed + 1) * LINE)

counted : (from now : ℕ) (past : List ℕ) → from ≤ now → count_by (nat_le from) (past ++ now ∷ []) ≡ count_by (nat_le from) past + 1
counted from now past e =
    sum_by-append (λ y. cond (nat_le from y) 1 0) past (now ∷ [])
    ∙ ap (λ (n : ℕ). count_by (nat_le from) past + n) (sum_by-cons (λ y. cond (nat_le from y) 1 0) now [] ∙ ap (λ b. cond b 1 0 + 0) (le-leb from now e))

sooner : (at now : ℕ) (moments : List ℕ) → at ≤ now → Ascends now moments → Ascends at moments
sooner at now [] e later = tt
sooner at now (m ∷ ms) e later = (omega (arith, e, later.0), later.1)

-- the lines that the rate has in a span, by the span's two parts
parted : (rate : Rate) (from at now : ℕ) → from ≤ at → at ≤ now → allowed rate from now ≡ allowed rate from at + rate.lines * (now - at)
parted rate from at now e f =
    let sum : rate.lines * (at - from) + rate.lines * (now - at) ≡ rate.lines * (now - from) = sym (mul-add rate.lines (at - from) (now - at)) ∙ ap (λ (n : ℕ). rate.lines * n) (omega (arith, e, f)) in
    omega (arith, sum)

no_time : (lines n : ℕ) → n ≡ 0 → lines * n ≡ 0
no_time lines n e = ap (λ (k : ℕ). lines * k) e ∙ mul-zero lines

-- a line is taken out of a bucket that was full, and the count begins with it
anew : (rate : Rate) (bucket : Bucket) (past : List ℕ) (now : ℕ) → bucket.moment ≤ now → LINE ≤ filled rate bucket now
    → rate.burst * LINE ≤ bucket.parts + rate.lines * (now - bucket.moment) → UsesAll rate (taken rate bucket now) (past ++ now ∷ [])
anew rate bucket past now e there over =
    let none = no_time rate.lines (max bucket.moment now - now) (omega (arith, e)) in
    let more = counted now now past (omega arith) in
    record { from = now; before = omega arith; all = omega (arith, none, more, there, over) }

-- or of one that was not, and the count goes on
goes_on : (rate : Rate) (bucket : Bucket) (past : List ℕ) (now : ℕ) → bucket.moment ≤ now → LINE ≤ filled rate bucket now
    → bucket.parts + rate.lines * (now - bucket.moment) < rate.burst * LINE → UsesAll rate bucket past → UsesAll rate (taken rate bucket now) (past ++ now ∷ [])
goes_on rate bucket past now e there under uses =
    let before = uses.before in
    let all = uses.all in
    let same : rate.lines * (max bucket.moment now - uses.from) ≡ rate.lines * (now - uses.from) = ap (λ (n : ℕ). rate.lines * n) (omega (arith, e)) in
    let sum = parted rate uses.from bucket.moment now before e in
    let more = counted uses.from now past (omega (arith, e, before)) in
    record { from = uses.from; before = omega (arith, e, before); all = omega (arith, all, same, sum, more, there, under) }

takes_out : (rate : Rate) (bucket : Bucket) (past : List ℕ) (now : ℕ) → bucket.moment ≤ now → LINE ≤ filled rate bucket now → UsesAll rate bucket past
    → UsesAll rate (taken rate bucket now) (past ++ now ∷ [])
takes_out rate bucket past now e there uses =
    elim (cases_lt (bucket.parts + rate.lines * (now - bucket.moment)) (rate.burst * LINE)) [
      | inl under ↦ goes_on rate bucket past now e there under uses
      | inr over ↦ anew rate bucket past now e there over
    ]

refused : (rate : Rate) (bucket : Bucket) (past : List ℕ) (now : ℕ) → 1 ≤ rate.burst → bucket.moment ≤ now → filled rate bucket now < LINE → UsesAll rate bucket past
    → OneTooMany rate past now
refused rate bucket past now some e short uses =
    let sum = parted rate uses.from bucket.moment now uses.before e in
    let all = uses.all in
    (uses.from, omega (arith, e, uses.before), omega (arith, sum, all, some, short))

-- one more line, if the law holds of those after it
next : (rate : Rate) (bucket : Bucket) (past : List ℕ) (m now : ℕ) → bucket.moment ≤ m → (moments : List ℕ) → Ascends m moments → UsesAll rate bucket past
    → (later : Bucket → List ℕ) → (is_refused : Bucket → Type 0)
    → ((b : Bucket) (earlier : List ℕ) → Ascends b.moment moments → UsesAll rate b earlier → is_refused b → OneTooMany rate (earlier ++ later b) now)
    → (p : Bool) → passes rate bucket m ≡ p → is_refused (if p then taken rate bucket m else bucket)
    → let rest = later (if p then taken rate bucket m else bucket) in OneTooMany rate (past ++ (if p then m ∷ rest else rest)) now
next rate bucket past m now e moments ascends uses later is_refused so true passed r =
    let after : UsesAll rate (taken rate bucket m) (past ++ m ∷ []) = takes_out rate bucket past m e (whole rate bucket m passed) uses in
    let done = so (taken rate bucket m) (past ++ m ∷ []) (sooner (max bucket.moment m) m moments (omega (arith, e)) ascends) after r in
    subst (λ (xs : List ℕ). OneTooMany rate xs now) (append_assoc past (m ∷ []) (later (taken rate bucket m))) done
next rate bucket past m now e moments ascends uses later is_refused so false passed r = so bucket past (sooner bucket.moment m moments e ascends) uses r

fewer : (rate : Rate) (bucket : Bucket) (past moments : List ℕ) (now : ℕ) → 1 ≤ rate.burst → Ascends bucket.moment (moments ++ now ∷ []) → UsesAll rate bucket past
    → passes rate (after_all rate bucket moments) now ≡ false → OneTooMany rate (past ++ passing rate bucket moments) now
fewer rate bucket past [] now some ascends uses e =
    subst (λ (xs : List ℕ). OneTooMany rate xs now) (sym (append-nil past)) (refused rate bucket past now some ascends.0 (less rate bucket now e) uses)
fewer rate bucket past (m ∷ ms) now some ascends uses e =
    next rate bucket past m now ascends.0 (ms ++ now ∷ []) ascends.1 uses (λ b. passing rate b ms) (λ b. passes rate (after_all rate b ms) now ≡ false)
    (λ b earlier rises all r. fewer rate b earlier ms now some rises all r) (passes rate bucket m) refl e

pub never_fewer : NeverFewer
never_fewer rate begun moments now some ascends e =
    let none = no_time rate.lines (begun - begun) (omega arith) in
    fewer rate (full rate begun) [] moments now some ascends (record { from = begun; before = omega arith; all = omega (arith, none) }) e
