use Rattle.std.proofs.Common.{arith, map, ◌<◌}
use Rattle.std.proofs.lemmas.Option.{slice_get_within}
use Rattle.nmvs_words.specs.declared.question_kind.TheConstants.{QUESTIONS}
use Rattle.nmvs_words.specs.declared.reply_kind.TheConstants.{REPLIES}
use Rattle.nmvs_metrics.proofs.registry.WorkerMetrics.note_reply.Goals as goal

-- src/registry.rt:715:29
pub overflow_mul-asked : goal.overflow_mul-asked
overflow_mul-asked c =
    let asked : c.place-asked.result < 14 = slice_get_within (map (λ row. row.0.now) QUESTIONS) _ _ c.place-asked.ensures in
    omega arith

-- src/registry.rt:715:18
pub overflow_add-asked : goal.overflow_add-asked
overflow_add-asked c =
    let asked : c.place-asked.result < 14 = slice_get_within (map (λ row. row.0.now) QUESTIONS) _ _ c.place-asked.ensures in
    omega arith

-- src/registry.rt:715:18
pub overflow_add-asked-2 : goal.overflow_add-asked-2
overflow_add-asked-2 c =
    let asked : c.place-asked.result < 14 = slice_get_within (map (λ row. row.0.now) QUESTIONS) _ _ c.place-asked.ensures in
    let replied : c.place_of_reply-replied.result < 12 = slice_get_within (map (λ row. row.0.now) REPLIES) _ _ c.place_of_reply-replied.ensures in
    omega arith
