use Rattle.std.proofs.Common.{◌≡◌, None, rules}
use Rattle.std.proofs.lemmas.Bool.{leb-false}
use Rattle.common.specs.CheckLaws.{none_holds}
use Rattle.common.specs.Checks.{first_refusal}
use Rattle.areas.proofs.IndexLemmas.{index-with_area}
use Rattle.areas.proofs.SoundLemmas.{sound-with_area}
use Rattle.areas.specs.Checks.{add_area_checks}
use Rattle.areas.proofs.areas.Areas.add_area.Goals as goal

pub invariant_of-self-2 : goal.invariant_of-self-2
invariant_of-self-2 c =
    let none : first_refusal (add_area_checks c.self.inside.list.items c.args.a.now) ≡ None = search rules in
    let holds = none_holds (add_area_checks c.self.inside.list.items c.args.a.now) none in
    rw c.in_ok-add_area.ensures.added (record {
      sound = sound-with_area _ _ c.self.invariant.sound holds.1.0 (leb-false 4096 _ holds.1.1.0);
      index = index-with_area _ _ _ holds.1.0 c.self.invariant.index;
    })
