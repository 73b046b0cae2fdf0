use Rattle.std.proofs.Common.{◌≡◌, ◌≤◌, ◌∙◌, ◌++◌, ℕ, List, [], Option, None, inr, length, take, refl, sym, ap, subst, arith, rules}
use Rattle.std.proofs.lemmas.List.{length-take, take-take}
use Rattle.nmvs_messages.specs.declared.peer.Peer.{Peer}
use Rattle.nmvs_connections.specs.Turns.{TakesBy}
use Rattle.nmvs_stream.specs.InputLines.{input_lines, lines_after, unfinished_line}
use Rattle.nmvs_connections.proofs.ConnectionLemmas.{kept_same, lines_kept, lines_more}
use Rattle.nmvs_connections.proofs.peer_session.take_lines.Goals as goal

-- bytes that are taken of a front part are taken of all
of_part : (bytes part : List ℕ) (first count : ℕ) → first ≤ length bytes → part ≡ take first bytes → count ≤ length part → (take count part ≡ take count bytes) × (count ≤ length bytes)
of_part bytes part first count fits is within =
    let size = ap (λ (l : List ℕ). length l) is ∙ length-take first bytes in
    let least : count ≤ first = omega (arith, within, size) in
    (ap (λ (l : List ℕ). take count l) is ∙ take-take count first bytes least, omega (arith, least, fits))

pub returns-in_default-clause-takes : goal.returns-in_default-clause-takes
returns-in_default-clause-takes g c = lines_kept _ _ _ _ _ _ _ _ refl refl (kept_same c.args.session.now c.args.session.now refl)

pub returns-then-is_some-clause-takes : goal.returns-then-is_some-clause-takes
returns-then-is_some-clause-takes g c = lines_kept _ _ _ _ _ _ _ _ refl refl (kept_same c.args.session.now c.args.session.now refl)

pub returns-then-waiting-ne0-clause-takes : goal.returns-then-waiting-ne0-clause-takes
returns-then-waiting-ne0-clause-takes g c = lines_kept _ _ _ _ _ _ _ _ refl refl (kept_same c.args.session.now c.args.session.now refl)

pub returns-then-is_listing-clause-takes : goal.returns-then-is_listing-clause-takes
returns-then-is_listing-clause-takes g c = lines_kept _ _ _ _ _ _ _ _ refl refl (kept_same c.args.session.now c.args.session.now refl)

pub returns-clause-within : goal.returns-clause-within
returns-clause-within g c =
    let p = c.part_for_now.ensures in
    (of_part c.args.bytes.now c.part_for_now.result.now p.0 c.take.result p.1 p.2 c.take.ensures.within).1

pub returns-clause-fed : goal.returns-clause-fed
returns-clause-fed g c =
    let p = c.part_for_now.ensures in
    c.take.ensures.fed ∙ ap (λ (l : List ℕ). c.args.session.now.fed ++ l) (of_part c.args.bytes.now c.part_for_now.result.now p.0 c.take.result p.1 p.2 c.take.ensures.within).0

pub returns-clause-takes : goal.returns-clause-takes
returns-clause-takes g c =
    let fed = c.args.session.now.fed in
    let bytes = take c.take.result c.part_for_now.result.now in
    let e = c.take.ensures in
    let a = e.asks in
    let open_still : c.args.session.now.ended ≡ None = search rules in
    let w = c.waiting.ensures in
    let told : c.args.session.now.waiting ≡ 0 = omega (arith, w, c.if-waiting-ne0.false) in
    let unlisted : c.args.session.now.listed ≡ [] = c.is_listing.ensures.none c.if-is_listing.false in record {
      lines = lines_after (unfinished_line fed) bytes;
      held = a.held;
      behind = a.behind;
      desk = subst (λ (p : Option Peer). TakesBy g.D.Desk.takes p c.args.desk.now (lines_after (unfinished_line fed) bytes) a.held c.take.new.desk) (sym c.in-Some.is) a.answers;
      goes = inr (
          record {
            lines_are = ap (λ (f : List ℕ). input_lines f) e.fed ∙ lines_more fed bytes;
            text = (λ i. (e.replies.0 i ++ e.replies.1 i) ++ e.replies.2 i) ∙ ap (λ (t : List ℕ). (c.args.session.now.sent ++ c.args.session.now.unsent) ++ t) (sym unlisted);
            open_still = open_still;
            told = told;
            starts = e.first;
            waits = sym a.one;
            shows = a.shows;
            sound = e.sound;
          }
          );
    }
