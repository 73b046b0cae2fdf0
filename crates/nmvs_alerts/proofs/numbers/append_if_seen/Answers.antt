use Rattle.std.proofs.Common.{◌≡◌, ◌∙◌, ◌++◌, ◌∷◌, [], Bool, List, ap, cond, subst, sym}
use Rattle.std.specs.List.{AllZip}
use Rattle.nmvs_alerts.specs.declared.alert.FlaggedAlert.{FlaggedAlert}
use Rattle.nmvs_alerts.specs.declared.numbers.Counted.{Counted}
use Rattle.nmvs_alerts.specs.Numbers.{IsCounted, seen, seen_as}
use Rattle.nmvs_alerts.proofs.numbers.append_if_seen.Goals as goal

zip-push : (xs : List FlaggedAlert) (ys : List Counted) (x : FlaggedAlert) (y : Counted) → AllZip IsCounted xs ys → IsCounted x y
    → AllZip IsCounted (xs ++ x ∷ []) (ys ++ y ∷ [])
zip-push [] [] x y zip here = (here, tt)
zip-push [] (b ∷ ys) x y zip here = absurd zip
zip-push (a ∷ xs) [] x y zip here = absurd zip
zip-push (a ∷ xs) (b ∷ ys) x y zip here = (zip.0, zip-push xs ys x y zip.1 here)

pub returns-in_ok-push : goal.returns-in_ok-push
returns-in_ok-push g c alerts zip =
    let t = c.args.shard.now in
    let u = c.args.author.now in
    let a = c.in-Some.alert in
    let one : seen t u c.args.flagged.now ≡ a ∷ [] =
    ap (seen_as t u) (sym c.alert_of.ensures ∙ c.in-Some.is)
    ∙ ap (λ (b : Bool). cond b (a ∷ []) []) (sym (c.may_see.ensures t c.tables.ensures.agree) ∙ c.if-may_see.true) in
    subst (λ (more : List FlaggedAlert). AllZip IsCounted (alerts ++ more) c.push.new.self.items) (sym one)
    (subst (λ (cs : List Counted). AllZip IsCounted (alerts ++ a ∷ []) cs) (sym c.in_ok-push.ensures.items)
    (zip-push alerts c.args.counted.now.items a c.counted_of.result zip c.counted_of.ensures))
