-- The answers of etcd 3.4.23, and their meaning.
use Rattle.std.proofs.Common.{◌≡◌, ℕ, List, [], ◌∷◌, ◌++◌, Some, None, true, false, refl}
use Rattle.std.specs.Prelude.{codes, length, take, ◌-◌, map}
use Rattle.std.specs.Borrow.{Bor}
use Rattle.std.specs.Fmt.{digits}
use Rattle.std.specs.List.{range_with_len}
use Rattle.std.specs.Str.{chars, is_utf8}
use lib.Utf8.{encode}
use Rattle.hex.specs.Hex.{encode_with}
use Rattle.base64.specs.Decode.{groups_error, groups_bytes, scan_steps}
use Rattle.base64.specs.GeneralPurpose.{decoded_of}
use Rattle.base64.specs.Rfc4648.{encode_symbols}
use Rattle.json.specs.Json.{items, members, value}
use Rattle.json.specs.Lex.{lex, punctuate}
use Rattle.json.specs.Text.{content}
use Rattle.json.specs.Word.{after_number, word}
use Rattle.nmvs_etcd.specs.declared.block.Block.{Block}
use Rattle.nmvs_etcd.specs.declared.key.Log.TheVariants.{Entries}
use Rattle.nmvs_etcd.specs.declared.outcome.Outcome.{Outcome}
use Rattle.nmvs_etcd.specs.declared.outcome.Outcome.TheVariants.{Confirmed, Fenced, Unknown}
use Rattle.nmvs_etcd.specs.declared.request.BlockRange.{BlockRange}
use Rattle.nmvs_etcd.specs.Answers.{answer, shown_value, shown_blocks}
use Rattle.nmvs_etcd.specs.Blocks.{block_text}
use Rattle.nmvs_etcd.specs.Names.{owner_name, is_machine}
use Rattle.nmvs_etcd.specs.Turns.{append, free, left, meaning, nobody, own, trim}
use Rattle.nmvs_tests.proofs.Gives.{Gives}

abbrev owned : List ℕ
owned = codes "{\"header\":{\"cluster_id\":\"324952591200643719\",\"member_id\":\"3319814642761637952\",\"revision\":\"4\",\"raft_term\":\"2\"},\"succeeded\":true,\"responses\":[{\"response_put\":{\"header\":{\"revision\":\"4\"}}}]}"

abbrev owned_already : List ℕ
owned_already = codes "{\"header\":{\"cluster_id\":\"324952591200643719\",\"member_id\":\"3319814642761637952\",\"revision\":\"4\",\"raft_term\":\"2\"},\"responses\":[{\"response_range\":{\"header\":{\"revision\":\"4\"},\"kvs\":[{\"key\":\"YzEvb3duZXI=\",\"create_revision\":\"2\",\"mod_revision\":\"4\",\"version\":\"2\",\"value\":\"YS4wMDAxMDIwMzA0MDUwNjA3MDgwOTBhMGIwYzBkMGUwZg==\"}],\"count\":\"1\"}}]}"

abbrev no_owner : List ℕ
no_owner = codes "{\"header\":{\"cluster_id\":\"324952591200643719\",\"member_id\":\"3319814642761637952\",\"revision\":\"1\",\"raft_term\":\"2\"},\"responses\":[{\"response_range\":{\"header\":{\"revision\":\"1\"}}}]}"

abbrev appended : List ℕ
appended = codes "{\"header\":{\"cluster_id\":\"324952591200643719\",\"member_id\":\"3319814642761637952\",\"revision\":\"5\",\"raft_term\":\"2\"},\"succeeded\":true,\"responses\":[{\"response_put\":{\"header\":{\"revision\":\"5\"}}},{\"response_put\":{\"header\":{\"revision\":\"5\"}}}]}"

abbrev appended_already : List ℕ
appended_already = codes "{\"header\":{\"cluster_id\":\"324952591200643719\",\"member_id\":\"3319814642761637952\",\"revision\":\"5\",\"raft_term\":\"2\"},\"responses\":[{\"response_range\":{\"header\":{\"revision\":\"5\"},\"kvs\":[{\"key\":\"YzEvb3duZXI=\",\"create_revision\":\"2\",\"mod_revision\":\"4\",\"version\":\"2\",\"value\":\"YS4wMDAxMDIwMzA0MDUwNjA3MDgwOTBhMGIwYzBkMGUwZg==\"}],\"count\":\"1\"}},{\"response_range\":{\"header\":{\"revision\":\"5\"},\"kvs\":[{\"key\":\"YzEvZW50cmllcy9lbmQ=\",\"create_revision\":\"3\",\"mod_revision\":\"5\",\"version\":\"2\",\"value\":\"MQ==\"}],\"count\":\"1\"}},{\"response_range\":{\"header\":{\"revision\":\"5\"},\"kvs\":[{\"key\":\"YzEvZW50cmllcy9ibG9jay8wMDAwMDAwMDAwMDAwMDAwMDAwMQ==\",\"create_revision\":\"5\",\"mod_revision\":\"5\",\"version\":\"1\",\"value\":\"YS4wMDAxMDIwMzA0MDUwNjA3MDgwOTBhMGIwYzBkMGUwZiAxIDAgMQp4Cg==\"}],\"count\":\"1\"}}]}"

abbrev bad_request : List ℕ
bad_request = codes "{\"error\":\"invalid character 'b' looking for beginning of object key string\",\"message\":\"invalid character 'b' looking for beginning of object key string\",\"code\":3}"

abbrev owner_read : List ℕ
owner_read = codes "{\"header\":{\"cluster_id\":\"324952591200643719\",\"member_id\":\"3319814642761637952\",\"revision\":\"6\",\"raft_term\":\"2\"},\"kvs\":[{\"key\":\"YzEvb3duZXI=\",\"create_revision\":\"2\",\"mod_revision\":\"4\",\"version\":\"2\",\"value\":\"YS4wMDAxMDIwMzA0MDUwNjA3MDgwOTBhMGIwYzBkMGUwZg==\"}],\"count\":\"1\"}"

abbrev end_read : List ℕ
end_read = codes "{\"header\":{\"cluster_id\":\"324952591200643719\",\"member_id\":\"3319814642761637952\",\"revision\":\"6\",\"raft_term\":\"2\"},\"kvs\":[{\"key\":\"YzEvZW50cmllcy9lbmQ=\",\"create_revision\":\"3\",\"mod_revision\":\"6\",\"version\":\"3\",\"value\":\"Mg==\"}],\"count\":\"1\"}"

abbrev blocks_read : List ℕ
blocks_read = codes "{\"header\":{\"cluster_id\":\"324952591200643719\",\"member_id\":\"3319814642761637952\",\"revision\":\"6\",\"raft_term\":\"2\"},\"kvs\":[{\"key\":\"YzEvZW50cmllcy9ibG9jay8wMDAwMDAwMDAwMDAwMDAwMDAwMQ==\",\"create_revision\":\"5\",\"mod_revision\":\"5\",\"version\":\"1\",\"value\":\"YS4wMDAxMDIwMzA0MDUwNjA3MDgwOTBhMGIwYzBkMGUwZiAxIDAgMQp4Cg==\"},{\"key\":\"YzEvZW50cmllcy9ibG9jay8wMDAwMDAwMDAwMDAwMDAwMDAwMg==\",\"create_revision\":\"6\",\"mod_revision\":\"6\",\"version\":\"1\",\"value\":\"YS4wMDAxMDIwMzA0MDUwNjA3MDgwOTBhMGIwYzBkMGUwZiAyIDEgMgp5CnoK\"}],\"count\":\"2\"}"

abbrev nothing_read : List ℕ
nothing_read = codes "{\"header\":{\"cluster_id\":\"324952591200643719\",\"member_id\":\"3319814642761637952\",\"revision\":\"6\",\"raft_term\":\"2\"}}"

abbrev trimmed : List ℕ
trimmed = codes "{\"header\":{\"cluster_id\":\"324952591200643719\",\"member_id\":\"3319814642761637952\",\"revision\":\"3\",\"raft_term\":\"2\"},\"succeeded\":true,\"responses\":[{\"response_delete_range\":{\"header\":{\"revision\":\"3\"},\"deleted\":\"2\"}},{\"response_put\":{\"header\":{\"revision\":\"3\"}}}]}"

abbrev trimmed_already : List ℕ
trimmed_already = codes "{\"header\":{\"cluster_id\":\"324952591200643719\",\"member_id\":\"3319814642761637952\",\"revision\":\"3\",\"raft_term\":\"2\"},\"responses\":[{\"response_range\":{\"header\":{\"revision\":\"3\"},\"kvs\":[{\"key\":\"YzEvb3duZXI=\",\"create_revision\":\"2\",\"mod_revision\":\"2\",\"version\":\"1\",\"value\":\"YS4wMDAxMDIwMzA0MDUwNjA3MDgwOTBhMGIwYzBkMGUwZg==\"}],\"count\":\"1\"}},{\"response_range\":{\"header\":{\"revision\":\"3\"},\"kvs\":[{\"key\":\"YzEvZW50cmllcy90cmltbWVk\",\"create_revision\":\"2\",\"mod_revision\":\"3\",\"version\":\"2\",\"value\":\"Mg==\"}],\"count\":\"1\"}}]}"

abbrev refused : List ℕ
refused = codes "{\"header\":{\"cluster_id\":\"324952591200643719\",\"member_id\":\"3319814642761637952\",\"revision\":\"2\",\"raft_term\":\"2\"},\"responses\":[{\"response_range\":{\"header\":{\"revision\":\"2\"},\"kvs\":[{\"key\":\"YzEvb3duZXI=\",\"create_revision\":\"2\",\"mod_revision\":\"2\",\"version\":\"1\",\"value\":\"YS4wMDAxMDIwMzA0MDUwNjA3MDgwOTBhMGIwYzBkMGUwZg==\"}],\"count\":\"1\"}},{\"response_range\":{\"header\":{\"revision\":\"2\"},\"kvs\":[{\"key\":\"YzEvZW50cmllcy90cmltbWVk\",\"create_revision\":\"2\",\"mod_revision\":\"2\",\"version\":\"1\",\"value\":\"MA==\"}],\"count\":\"1\"}}]}"

abbrev number_read : List ℕ
number_read = codes "{\"header\":{\"cluster_id\":\"324952591200643719\",\"member_id\":\"3319814642761637952\",\"revision\":\"3\",\"raft_term\":\"2\"},\"kvs\":[{\"key\":\"YzEvZW50cmllcy90cmltbWVk\",\"create_revision\":\"2\",\"mod_revision\":\"3\",\"version\":\"2\",\"value\":\"Mg==\"}],\"count\":\"1\"}"

abbrev freed : List ℕ
freed = codes "{\"header\":{\"cluster_id\":\"324952591200643719\",\"member_id\":\"3319814642761637952\",\"revision\":\"4\",\"raft_term\":\"2\"},\"succeeded\":true,\"responses\":[{\"response_put\":{\"header\":{\"revision\":\"4\"}}}]}"

abbrev freed_already : List ℕ
freed_already = codes "{\"header\":{\"cluster_id\":\"324952591200643719\",\"member_id\":\"3319814642761637952\",\"revision\":\"4\",\"raft_term\":\"2\"},\"responses\":[{\"response_range\":{\"header\":{\"revision\":\"4\"},\"kvs\":[{\"key\":\"YzEvb3duZXI=\",\"create_revision\":\"2\",\"mod_revision\":\"4\",\"version\":\"2\",\"value\":\"LQ==\"}],\"count\":\"1\"}}]}"

machines : Gives is_machine ((codes "", false) ∷ (codes "a b", false) ∷ (codes "a.b", false) ∷ (codes "a-1", true) ∷ [])
machines = refl

abbrev lent : {A : Type 0} → A → Bor A
lent a = record { ref_ptr = (0, 0); now = a }

-- the owner on a machine, with the drawn bytes 0 to 15
abbrev owner_on : List ℕ → List ℕ
owner_on machine = owner_name machine (range_with_len 0 16)

-- an answer without its last byte
abbrev cut : List ℕ → List ℕ
cut body = take (length body - 1) body

-- the first block, with one line
abbrev block : List ℕ → List ℕ → Block
block machine line = record { owner = lent (owner_on machine); before = 0; first = 0; count = 1; lines = lent line }

-- the meaning of an answer to the append of such a block
abbrev to_append : List ℕ × List ℕ × ℕ × List ℕ → Outcome
to_append a = meaning (left (append (block_text (block a.0 a.1)) 0)) (answer 3 a.2 a.3)

appends : Gives to_append (
    ((codes "a", codes "x\n", 200, appended), Confirmed)
    ∷ ((codes "a", codes "x\n", 200, appended_already), Confirmed)
    ∷ ((codes "b", codes "x\n", 200, appended_already), Fenced)
    ∷ ((codes "a", codes "y\n", 200, appended_already), Fenced)
    ∷ ((codes "a", codes "x\n", 400, bad_request), Unknown)
    ∷ ((codes "a", codes "x\n", 200, bad_request), Unknown)
    ∷ ((codes "a", codes "x\n", 200, no_owner), Unknown)
    ∷ [])
unfolding digits chars encode is_utf8 encode_with groups_error groups_bytes scan_steps decoded_of encode_symbols items members value lex punctuate content after_number word
appends = refl

-- only a whole answer with the status 200 says anything
abbrev partly : List (List ℕ × List ℕ) → List (List ℕ × List ℕ × ℕ × List ℕ)
partly [] = []
partly (a ∷ more) = (a.0, codes "x\n", 500, a.1) ∷ (a.0, codes "x\n", 200, cut a.1) ∷ partly more

appends-partly :
    map to_append (partly ((codes "a", appended) ∷ (codes "a", appended_already) ∷ (codes "b", appended_already) ∷ []))
    ≡ Unknown ∷ Unknown ∷ Unknown ∷ Unknown ∷ Unknown ∷ Unknown ∷ []
unfolding digits chars encode is_utf8 encode_with groups_error groups_bytes scan_steps decoded_of encode_symbols items members value lex punctuate content after_number word
appends-partly = refl

-- the meaning of an answer to a request to own the logs
abbrev to_own : List ℕ × List ℕ → Outcome
to_own a = meaning (left (own nobody (owner_on a.0))) (answer 1 200 a.1)

owners : Gives to_own (
    ((codes "a", owned), Confirmed)
    ∷ ((codes "a", owned_already), Confirmed)
    ∷ ((codes "b", owned_already), Fenced)
    ∷ ((codes "a", no_owner), Fenced)
    ∷ ((codes "a", bad_request), Unknown)
    ∷ ((codes "a", freed_already), Fenced)
    ∷ [])
unfolding digits chars encode is_utf8 encode_with groups_error groups_bytes scan_steps decoded_of encode_symbols items members value lex punctuate content after_number word
owners = refl

-- the meaning of an answer to the trim of the first two blocks
abbrev to_trim : List ℕ × ℕ × List ℕ → Outcome
to_trim a = meaning (left (trim (owner_on a.0) 0 2)) (answer 2 a.1 a.2)

trims : Gives to_trim (
    ((codes "a", 200, trimmed), Confirmed)
    ∷ ((codes "a", 200, trimmed_already), Confirmed)
    ∷ ((codes "b", 200, trimmed_already), Fenced)
    ∷ ((codes "a", 200, refused), Fenced)
    ∷ ((codes "b", 200, refused), Fenced)
    ∷ ((codes "a", 200, number_read), Unknown)
    ∷ [])
unfolding digits chars encode is_utf8 encode_with groups_error groups_bytes scan_steps decoded_of encode_symbols items members value lex punctuate content after_number word
trims = refl

abbrev trims_partly : List (List ℕ) → List (List ℕ × ℕ × List ℕ)
trims_partly [] = []
trims_partly (body ∷ more) = (codes "a", 503, body) ∷ (codes "a", 200, cut body) ∷ trims_partly more

trims-partly :
    map to_trim (trims_partly (trimmed ∷ trimmed_already ∷ refused ∷ number_read ∷ []))
    ≡ Unknown ∷ Unknown ∷ Unknown ∷ Unknown ∷ Unknown ∷ Unknown ∷ Unknown ∷ Unknown ∷ []
unfolding digits chars encode is_utf8 encode_with groups_error groups_bytes scan_steps decoded_of encode_symbols items members value lex punctuate content after_number word
trims-partly = refl

-- the meaning of an answer to a turn that is given up
turns : Gives (λ body. meaning (left (free (owner_on (codes "a")))) (answer 1 200 body)) (
    (freed, Confirmed)
    ∷ (freed_already, Confirmed)
    ∷ (trimmed_already, Fenced)
    ∷ (number_read, Unknown)
    ∷ [])
unfolding digits chars encode is_utf8 encode_with groups_error groups_bytes scan_steps decoded_of encode_symbols items members value lex punctuate content after_number word
turns = refl

turns-partly :
    map (λ body. meaning (left (free (owner_on (codes "a")))) (answer 1 500 body)) (freed ∷ freed_already ∷ trimmed_already ∷ number_read ∷ [])
    ≡ Unknown ∷ Unknown ∷ Unknown ∷ Unknown ∷ []
turns-partly = refl

-- the owner, the end and the number of trimmed blocks that answers show
values : Gives (shown_value 200) ((owner_read, Some (owner_on (codes "a"))) ∷ (end_read, Some (codes "2")) ∷ (number_read, Some (codes "2")) ∷ [])
unfolding digits chars encode is_utf8 encode_with groups_error groups_bytes scan_steps decoded_of encode_symbols items members value lex punctuate content after_number word
values = refl

value-partly : shown_value 500 number_read ≡ None
value-partly = refl

-- blocks of the log of entries up to the second, from this one on
abbrev blocks_from : ℕ → BlockRange
blocks_from first = record { cluster = lent (codes "c1"); log = Entries; first = first; past = 3 }

blocks : shown_blocks (blocks_from 1) 200 blocks_read
    ≡ Some ((owner_on (codes "a") ++ codes " 1 0 1\nx\n") ∷ (owner_on (codes "a") ++ codes " 2 1 2\ny\nz\n") ∷ [])
unfolding digits chars encode is_utf8 encode_with groups_error groups_bytes scan_steps decoded_of encode_symbols items members value lex punctuate content after_number word
blocks = refl

no-blocks : shown_blocks (blocks_from 1) 200 nothing_read ≡ Some []
unfolding digits chars encode is_utf8 encode_with groups_error groups_bytes scan_steps decoded_of encode_symbols items members value lex punctuate content after_number word
no-blocks = refl

other-blocks : shown_blocks (blocks_from 2) 200 blocks_read ≡ None
unfolding digits chars encode is_utf8 encode_with groups_error groups_bytes scan_steps decoded_of encode_symbols items members value lex punctuate content after_number word
other-blocks = refl
