-- The record of a batch.
use Rattle.std.specs.Prelude.{ℕ, ◌≡◌, ◌+◌, Bool, false, ◌&&◌, List, [], ◌∷◌, ◌++◌, fold, Option, Some, None, unwrap_or, if◌then◌else◌}
use Rattle.std.specs.HashMap.{HashMap, get, keys}
use Rattle.std.specs.List.{filter_map, list_any}
use Rattle.std.specs.Option.{option_map, option_map_or}
use Rattle.nmvs_identifier.specs.ProductCode.{ProductCode}
use Rattle.nmvs_identifier.specs.Batch.{Batch}
use Rattle.nmvs_identifier.specs.Texts.{same_text}
use Rattle.nmvs_rules.specs.declared.question.Question.{Question}
use Rattle.nmvs_rules.specs.declared.question.Question.TheVariants.{Upload, OfBatch}
use Rattle.nmvs_rules.specs.declared.batch_question.BatchQuestion.TheVariants.{Recall, Withdraw}
use Rattle.nmvs_rules.specs.declared.own_status.OwnStatus.{OwnStatus}
use Rattle.nmvs_rules.specs.declared.own_status.OwnStatus.TheVariants as own
use Rattle.nmvs_rules.specs.declared.batch_lock.BatchLock.{BatchLock}
use Rattle.nmvs_rules.specs.declared.batch_lock.BatchLock.TheVariants as lock
use Rattle.nmvs_rules.specs.declared.entry.Entry.{Entry}
use Rattle.nmvs_rules.specs.declared.facts.Known.{Known}
use Rattle.nmvs_rules.specs.declared.facts.Counts.{Counts}
use Rattle.nmvs_rules.specs.declared.facts.BatchRecord.{BatchRecord}
use Rattle.nmvs_rules.specs.Questions.{code_of, pack_of}
use Rattle.nmvs_rules.specs.Trail.{is_accepted, own_given, is_own, batch_record}
use Rattle.nmvs_tables.specs.declared.batches.BatchKey.{BatchKey}
use Rattle.nmvs_tables.specs.Codes.{one_if}

-- whether two batches are the same
abbrev pub same_batch : BatchKey → BatchKey → Bool
same_batch a b = same_text a.code b.code && same_text a.batch b.batch

-- the batch that a question uploads a pack of
abbrev pub uploaded_batch : Question → Option BatchKey
uploaded_batch (Upload p b x) = Some (record { code = p.code; batch = b })
uploaded_batch _ = None

-- the batch of an accepted upload
abbrev pub batch_born : Entry → Option BatchKey
batch_born e = if is_accepted e then uploaded_batch e.put.question else None

-- the batches with one more, unless it is among them
abbrev pub with_batch : List BatchKey → BatchKey → List BatchKey
with_batch bs b = if list_any (same_batch b) bs then bs else bs ++ b ∷ []

-- the batches of the accepted uploads, each once, in the order of the first ones (own)
abbrev pub batches_of : List Entry → List BatchKey
batches_of t = fold with_batch [] (filter_map batch_born t)

-- the table has the record of each batch, in the order of their first accepted uploads
pub record AreBatchesOf {S : Type 0} (m : HashMap BatchKey BatchRecord S) (t : List Entry) : Type 0 where
  pub records : (b : BatchKey) → get same_batch m b ≡ batch_record t b.code b.batch
  pub order : keys m ≡ batches_of t

-- the number of packs in an own status, by the counts
abbrev pub count_in : Counts → OwnStatus → ℕ
count_in n own.Active = n.active
count_in n own.Held = n.held
count_in n own.Supplied = n.supplied
count_in n own.Exported = n.exported
count_in n own.Sampled = n.sampled
count_in n own.Destroyed = n.destroyed
count_in n own.Stolen = n.stolen

-- the batch that an accepted question changes: that of the known pack, or the one that is uploaded, recalled or
-- withdrawn
abbrev pub batch_meant : Question → Option Known → Option BatchKey
batch_meant q (Some k) = Some (record { code = code_of q; batch = k.batch })
batch_meant (Upload p b x) None = Some (record { code = p.code; batch = b })
batch_meant (OfBatch _ c b) None = Some (record { code = c; batch = b })
batch_meant _ None = None

-- the batch that an entry changes: none if the question was not accepted
abbrev pub batch_changed : Entry → Option Known → Option BatchKey
batch_changed e k = if is_accepted e then batch_meant e.put.question k else None

-- the own status that a pack has before an accepted question, if it is known
abbrev pub own_before : Option Known → Option OwnStatus
own_before k = option_map (λ x. x.own) k

-- the own status that an accepted question gives the pack that it names, if it names one
abbrev pub own_after : Question → Option OwnStatus
own_after q = option_map (λ _. own_given q) (pack_of q)

-- the lock of a batch after an accepted question that changes the batch (Article 40)
abbrev pub lock_after : Question → BatchLock → BatchLock
lock_after (OfBatch Recall c b) l = lock.Recalled
lock_after (OfBatch Withdraw c b) l = lock.Withdrawn
lock_after q l = l

-- the counts of a batch without packs
abbrev pub no_counts : Counts
no_counts = record { active = 0; held = 0; supplied = 0; exported = 0; sampled = 0; destroyed = 0; stolen = 0 }

-- the record of a batch without packs
abbrev pub no_packs : BatchRecord
no_packs = record { lock = lock.Free; counts = no_counts }

-- the counts after a pack went from one own status to another, from none or to none
abbrev pub Moves : Counts → Option OwnStatus → Option OwnStatus → Counts → Type 0
Moves old from to new = (s : OwnStatus) → count_in new s + one_if (is_own s from) ≡ count_in old s + one_if (is_own s to)

-- whether an entry changes the batch
abbrev pub changes_batch : BatchKey → Entry → Option Known → Bool
changes_batch b e k = option_map_or (same_batch b) (batch_changed e k) false

-- the record of a batch before and after an accepted entry that changes it
pub record NotesBatch (q : Question) (k : Option Known) (old new : BatchRecord) : Type 0 where
  pub lock : new.lock ≡ lock_after q old.lock
  pub counts : Moves old.counts (own_before k) (own_after q) new.counts

-- the batches after an entry: a batch that it changes is among them
abbrev pub batches_after : List BatchKey → Option BatchKey → List BatchKey
batches_after bs None = bs
batches_after bs (Some b) = with_batch bs b

-- the batch that an entry changes, if it is not yet among the batches
abbrev pub first_of : List BatchKey → Option BatchKey → Option BatchKey
first_of bs None = None
first_of bs (Some b) = if list_any (same_batch b) bs then None else Some b

-- the record of a batch in a table, or that of a batch without packs
abbrev pub batch_in : {S : Type 0} → HashMap BatchKey BatchRecord S → BatchKey → BatchRecord
batch_in m b = unwrap_or (get same_batch m b) no_packs

-- the batch of a known pack, or the one that a recall or withdrawal names, by a table
abbrev pub batch_named_in : {S : Type 0} → HashMap BatchKey BatchRecord S → ProductCode → Option Batch → Option Known → Option BatchRecord
batch_named_in m c (Some b) k = get same_batch m (record { code = c; batch = b })
batch_named_in m c None (Some k) = get same_batch m (record { code = c; batch = k.batch })
batch_named_in m c None None = None
