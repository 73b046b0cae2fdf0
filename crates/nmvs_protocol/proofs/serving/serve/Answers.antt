use Rattle.std.proofs.Common.{rules, inr, ◌==◌, ◌||◌, ◌++◌, [], List, ℕ, Bool, take, refl, sym, ap, ◌∙◌, arith}
use Rattle.std.proofs.lemmas.List.{append-nil, append_assoc, length-take-le}
use Rattle.std.proofs.lemmas.Bool.{ne_eqb}
use Rattle.nmvs_stream.specs.InputLines.{input_lines}
use Rattle.nmvs_protocol.proofs.SessionSteps.{so_far_none, so_far_more, closed, closed_unread}
use Rattle.nmvs_messages.specs.Peers.{TakesFrom}
use Rattle.nmvs_protocol.proofs.serving.serve.Goals as goal

pub returns-in_default : goal.returns-in_default
returns-in_default g c =
    closed_unread (TakesFrom g.D.Desk.takes c.args.from.now) g.D.Desk.releases g.D.Desk.moves c.args.limits c.args.desk.now (g.R.Source.told c.args.source.now) (g.W.Sink.taken c.args.sink.now)
    c.requires.source_open c.requires.source_sound c.requires.sink_sound

pub loop-init : goal.loop-init
loop-init g c = (
  [],
  sym (append-nil _),
  so_far_none (TakesFrom g.D.Desk.takes c.args.from.now) g.D.Desk.releases g.D.Desk.moves c.args.limits.lines c.args.desk.now (g.W.Sink.taken c.args.sink.now) _ (search rules) (search rules) (search rules) c.requires.sink_sound,
  omega arith,
  c.requires.source_open,
  c.requires.source_sound,
  omega arith,
)

pub returns-in-Some : goal.returns-in-Some
returns-in-Some g c =
    let inv = c.loop.invariant in
    let gives = c.in-Ok-read.ensures.ok in
    let chunk = take c.in-Ok-read.count c.read.new.buffer in
    let served = c.in-Some.ensures inv.0 inv.2.begun inv.2.within inv.2.sound in
    closed (TakesFrom g.D.Desk.takes c.args.from.now) g.D.Desk.releases g.D.Desk.moves c.args.limits (g.R.Source.told c.args.source.now) (g.R.Source.told c.read.new.self) chunk c.in-Some.end
    (omega (arith, length-take-le c.in-Ok-read.count c.read.new.buffer gives.fits, gives.fits, c.read.auto.buffer)) inv.2 served.0
    (gives.bytes ∙ ap (λ (t : List ℕ). t ++ chunk) inv.1 ∙ append_assoc (g.R.Source.told c.args.source.now).bytes inv.0 chunk)
    (omega (arith, gives.reads, inv.3, c.loop-test.true))
    (gives.ended ∙ ap (λ (t : Bool). t || (c.in-Ok-read.count == 0)) inv.4 ∙ ne_eqb c.in-Ok-read.count 0 c.in-Ok-read.count-test.1)
    (gives.failed ∙ inv.5)

pub loop-preserved : goal.loop-preserved
loop-preserved g c =
    let inv = c.loop.invariant in
    let gives = c.in-Ok-read.ensures.ok in
    let chunk = take c.in-Ok-read.count c.read.new.buffer in
    let served = c.in-None.ensures inv.0 inv.2.begun inv.2.within inv.2.sound in (
      inv.0 ++ chunk,
      gives.bytes ∙ ap (λ (t : List ℕ). t ++ chunk) inv.1 ∙ append_assoc (g.R.Source.told c.args.source.now).bytes inv.0 chunk,
      so_far_more (TakesFrom g.D.Desk.takes c.args.from.now) g.D.Desk.releases g.D.Desk.moves chunk inv.2 served.0 served.1,
      omega (arith, gives.reads, inv.3),
      gives.ended ∙ ap (λ (t : Bool). t || (c.in-Ok-read.count == 0)) inv.4 ∙ ne_eqb c.in-Ok-read.count 0 c.in-Ok-read.count-test.1,
      gives.failed ∙ inv.5,
      omega (arith, c.loop-test.true),
    )

pub returns : goal.returns
returns g c =
    let inv = c.loop.invariant in record {
      input = inv.0;
      read = inv.1;
      answered = input_lines inv.0;
      left = [];
      these = sym (append-nil _);
      said = inv.2.said;
      answers = inv.2.answers;
      lines_within = omega (arith, inv.2.counted, inv.2.within, inv.2.limit_is);
      reads_within = omega (arith, inv.3, inv.6);
      closes = (inv.2.no_quit, inv.2.delivered, inr (record { reached = omega (arith, inv.3, inv.6, c.loop-test.false); all = refl }));
      ended = inv.4;
      read_failed = inv.5;
      write_failed = inv.2.sound;
    }
