-- A batch is free exactly if no entry recalled or withdrew it.
use Rattle.std.proofs.Common.{◌≡◌, Bool, true, false, not, List, Option, Some, None, refl, sym, ap, ◌∙◌}
use Rattle.std.specs.Cmp.{first_so}
use Rattle.std.specs.List.{find, list_any}
use Rattle.std.specs.Option.{is_some, option_map_or}
use Rattle.nmvs_identifier.specs.Batch.{Batch}
use Rattle.nmvs_identifier.specs.ProductCode.{ProductCode}
use Rattle.nmvs_rules.specs.declared.batch_lock.BatchLock.{BatchLock}
use Rattle.nmvs_rules.specs.declared.batch_lock.BatchLock.TheVariants as lock
use Rattle.nmvs_rules.specs.declared.entry.Entry.{Entry}
use Rattle.nmvs_rules.specs.Trail.{lock_by, lock_of}
use Rattle.nmvs_rules.specs.Rules.{is_free}
use Rattle.nmvs_rules.specs.Operations.{binds}
use Rattle.nmvs_rules.specs.Laws.{IsUnlocked}
use Rattle.nmvs_rules.proofs.Accepted.{accepted_lock, binds-is}
use Rattle.nmvs_rules.proofs.FindLemmas.{find-passes, is_some-find}
use Rattle.nmvs_rules.proofs.PushLemmas.{locks_batch-binds}

lock-found : (o : Option Entry) → ((x : Entry) → o ≡ Some x → is_free (lock_by x.put.question) ≡ false) → is_free (option_map_or (λ e. lock_by e.put.question) o lock.Free) ≡ not (is_some o)
lock-found None h = refl
lock-found (Some x) h = h x refl

is_free-lock_of : (t : List Entry) (c : ProductCode) (b : Batch) → is_free (lock_of t c b) ≡ not (list_any (binds c b) t)
is_free-lock_of t c b =
    lock-found (find (accepted_lock c b) t) (λ x found. locks_batch-binds c b x.put.question (first_so _ _ (find-passes (accepted_lock c b) t x found)))
    ∙ ap not (is_some-find (accepted_lock c b) t)
    ∙ (λ i. not (list_any (λ e. sym (binds-is c b e) i) t))

-- a batch that no entry recalled or withdrew is free
pub free-unlocked : (t : List Entry) (c : ProductCode) (b : Batch) → IsUnlocked t c b → is_free (lock_of t c b) ≡ true
free-unlocked t c b h = is_free-lock_of t c b ∙ ap not h

-- no entry recalled or withdrew a batch that is free
pub unlocked-free : (t : List Entry) (c : ProductCode) (b : Batch) → is_free (lock_of t c b) ≡ true → IsUnlocked t c b
unlocked-free t c b h = by _ (sym (is_free-lock_of t c b) ∙ h)
  where
    by : (a : Bool) → not a ≡ true → a ≡ false
    by true wrong = sym wrong
    by false right = refl

-- a lock that passes as free is Free
pub free-lock : (l : BatchLock) → is_free l ≡ true → l ≡ lock.Free
free-lock lock.Free h = refl
free-lock lock.Recalled h = cc
free-lock lock.Withdrawn h = cc
