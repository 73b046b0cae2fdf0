-- The families of the page of metrics (own).
use Rattle.std.specs.Prelude.{ℕ, List, [], ◌∷◌, codes}
use Rattle.nmvs_metrics.specs.declared.registry.Family.{Family}

-- a family of samples: their name, their type, their help text, and the names of their labels, as far as they have any
pub record Row : Type 0 where
  pub name : List ℕ
  pub kind : List ℕ
  pub help : List ℕ
  pub label : List ℕ
  pub second : List ℕ

abbrev pub row : List ℕ → List ℕ → List ℕ → List ℕ → List ℕ → Row
row name kind help label second = record { name = name; kind = kind; help = help; label = label; second = second }

-- the families, in the order in which the page has them
abbrev pub families : List Row
families =
    row (codes "nmvs_build_info") (codes "gauge") (codes "Constant 1, by the version of the program and the toolchain that built it.") (codes "version") (codes "toolchain")
    ∷ row (codes "nmvs_ready") (codes "gauge") (codes "Whether the server listens, 1 or 0.") [] []
    ∷ row (codes "nmvs_clock_steps_total") (codes "counter") (codes "Steps of the system's clock by more than 2 seconds.") [] []
    ∷ row (codes "process_start_time_seconds") (codes "gauge") (codes "Start time of the process since 1970 in seconds.") [] []
    ∷ row (codes "process_resident_memory_bytes") (codes "gauge") (codes "Resident memory size in bytes.") [] []
    ∷ row (codes "process_open_fds") (codes "gauge") (codes "Number of open file descriptors.") [] []
    ∷ row (codes "process_max_fds") (codes "gauge") (codes "Maximum number of open file descriptors.") [] []
    ∷ row (codes "nmvs_questions_total") (codes "counter") (codes "Questions that the repository answered, by kind and reply.") (codes "question") (codes "reply")
    ∷ row (codes "nmvs_refusals_total") (codes "counter") (codes "Questions that the repository refused, by the word of the refusal.") (codes "refusal") []
    ∷ row (codes "nmvs_alerts_flagged_total") (codes "counter") (codes "Alerts that were flagged as potential falsifications, by their cause.") (codes "cause") []
    ∷ row (codes "nmvs_reports_total") (codes "counter") (codes "Reports on product codes.") [] []
    ∷ row (codes "nmvs_reply_seconds") (codes "histogram") (codes "Seconds from a line to the release of its reply, or more.") [] []
    ∷ row (codes "nmvs_faults_total") (codes "counter") (codes "Lines and connections that were answered with a fault, by its word.") (codes "fault") []
    ∷ row (codes "nmvs_connections_open") (codes "gauge") (codes "Connections that are open, by worker.") (codes "worker") []
    ∷ row (codes "nmvs_connections_total") (codes "counter") (codes "Connections that were accepted, by worker.") (codes "worker") []
    ∷ row (codes "nmvs_sessions_total") (codes "counter") (codes "Sessions that have begun in which a line is served.") [] []
    ∷ row (codes "nmvs_connections_memory_bytes") (codes "gauge") (codes "Memory of the buffers of connections, by worker.") (codes "worker") []
    ∷ row (codes "nmvs_connections_evicted_total") (codes "counter") (codes "Connections that were closed because the buffers of all took too much memory.") [] []
    ∷ row (codes "nmvs_users") (codes "gauge") (codes "Users, by state.") (codes "state") []
    ∷ row (codes "nmvs_entries") (codes "gauge") (codes "Entries of the audit trail, by shard.") (codes "shard") []
    ∷ row (codes "nmvs_packs") (codes "gauge") (codes "Packs that the repository knows, by shard.") (codes "shard") []
    ∷ row (codes "nmvs_journal_confirmed_entries") (codes "gauge") (codes "Entries that the log has confirmed, by shard.") (codes "shard") []
    ∷ row (codes "nmvs_journal_waiting_entries") (codes "gauge") (codes "Entries that the log has not confirmed yet, by shard.") (codes "shard") []
    ∷ row (codes "nmvs_journal_sync_seconds") (codes "histogram") (codes "Seconds that a sync of the log took.") [] []
    ∷ row (codes "nmvs_journal_failures_total") (codes "counter") (codes "Failures of the file of the log.") [] []
    ∷ row (codes "nmvs_log_failed") (codes "gauge") (codes "Whether the log failed, 1 or 0.") [] []
    ∷ row (codes "nmvs_log_write_seconds") (codes "gauge") (codes "Seconds that the write or sync of the log that is under way has taken, 0 where none is.") [] []
    ∷ row (codes "nmvs_standby") (codes "gauge") (codes "Whether the server follows that of another machine, 1 or 0.") [] []
    ∷ row (codes "nmvs_log_following_entries") (codes "gauge") (codes "Entries of the log that the server has read as one that follows.") [] []
    ∷ row (codes "nmvs_copy_blocks") (codes "gauge") (codes "Blocks of the log that the copy of this machine has on the disk.") [] []
    ∷ []

-- a family of the program
abbrev pub row_of : Family → Row
row_of f = row f.name.now f.kind.now f.help.now f.labels.0.now f.labels.1.now
