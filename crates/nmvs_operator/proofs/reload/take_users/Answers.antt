use Rattle.std.proofs.Common.{rules, ◌≡◌, ℕ, List, Some, None, ap, refl, inr, subst}
use Rattle.nmvs_directory.specs.Registrar.{published, pending}
use Rattle.nmvs_operator.specs.Roll.{changed_users, changed_line}
use Rattle.nmvs_operator.specs.Users.{AddsAll, AddsFirst}
use Rattle.nmvs_operator.proofs.ReloadLemmas.{taken_faultless}
use Rattle.nmvs_operator.proofs.reload.take_users.Goals as goal

pub returns-in-Err : goal.returns-in-Err
returns-in-Err g c =
    let lines = c.in-Ok-lines_in_effect.lines.items in
    let keeps = g.S.Service.keeps in
    let kept = subst (λ (b : List ℕ). keeps c.args.service.now b (Some c.in-Err.fault) c.keep_file.new.self) c.deref.ensures.value c.in-Err.ensures in
    (inr (lines, record { faultless = taken_faultless c.in-Ok-lines_in_effect.ensures; kept = kept }), (refl, refl), refl)

pub returns-in-Ok-publish_all : goal.returns-in-Ok-publish_all
returns-in-Ok-publish_all g c =
    let lines = c.in-Ok-lines_in_effect.lines.items in
    let keeps = g.S.Service.keeps in
    let kept = subst (λ (b : List ℕ). keeps c.args.service.now b None c.keep_file.new.self) c.deref.ensures.value c.in_default-keep_file.ensures in
    let done = c.in-Ok-publish_all.ensures in
    let counted : c.count_changed.result ≡ changed_users (published c.args.registrar.now) (published c.publish_all.new.registrar) = search rules in (
      refl,
      record {
        bytes = lines;
        users = record {
          file = c.args.file.now;
          takes = c.in-Ok-lines_in_effect.ensures;
          kept = record { faultless = taken_faultless c.in-Ok-lines_in_effect.ensures; kept = kept };
        };
        added = done.0;
        adds = subst (λ (b : List ℕ). AddsAll b (pending c.args.registrar.now) done.0) c.deref-2.ensures.value done.1;
        published = done.2;
        none_left = done.3;
        told = search rules;
      },
      ap changed_line counted,
    )

pub returns : goal.returns
returns g c =
    let lines = c.in-Ok-lines_in_effect.lines.items in
    let keeps = g.S.Service.keeps in
    let kept = subst (λ (b : List ℕ). keeps c.args.service.now b None c.keep_file.new.self) c.deref.ensures.value c.in_default-keep_file.ensures in
    let lacks = c.in-Err-publish_all.ensures in (
      inr (record {
        bytes = lines;
        users = record {
          file = c.args.file.now;
          takes = c.in-Ok-lines_in_effect.ensures;
          kept = record { faultless = taken_faultless c.in-Ok-lines_in_effect.ensures; kept = kept };
        };
        published = lacks.0;
        pending = subst (λ (b : List ℕ). AddsFirst b (pending c.args.registrar.now) (pending c.publish_all.new.registrar)) c.deref-2.ensures.value lacks.1;
        latest = refl;
      }),
      refl,
    )
