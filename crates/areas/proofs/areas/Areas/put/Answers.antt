use Rattle.std.proofs.Common.{◌≡◌, true, None, rules}
use Rattle.std.proofs.lemmas.Bool.{leb-false, not-false}
use Rattle.common.specs.CheckLaws.{none_holds}
use Rattle.common.specs.Checks.{first_refusal}
use Rattle.areas.proofs.IndexLemmas.{index-taken_back, index-with_selector}
use Rattle.areas.proofs.SoundLemmas.{sound-with_selector}
use Rattle.areas.specs.Areas.{has_area}
use Rattle.areas.specs.Checks.{put_checks}
use Rattle.areas.proofs.areas.Areas.put.Goals as goal

pub invariant_of-self-in-Ok : goal.invariant_of-self-in-Ok
invariant_of-self-in-Ok c =
    let list = c.self.inside.list.items in
    let none : first_refusal (put_checks list c.args.a.now c.args.s) ≡ None = search rules in
    let holds = none_holds (put_checks list c.args.a.now c.args.s) none in
    let there : has_area list c.args.a.now ≡ true = not-false _ holds.0 in
    rw c.in-Ok.ensures.put (record {
      sound = sound-with_selector _ _ _ c.self.invariant.sound there holds.1.0 (leb-false 4096 _ holds.1.1.0);
      index = index-with_selector _ _ _ _ _ there c.self.invariant.index c.in_ok-insert.ensures.inserted;
    })

pub invariant_of-self-in-Err : goal.invariant_of-self-in-Err
invariant_of-self-in-Err c =
    let list = c.self.inside.list.items in
    let none : first_refusal (put_checks list c.args.a.now c.args.s) ≡ None = search rules in
    let holds = none_holds (put_checks list c.args.a.now c.args.s) none in
    rw c.in-Err.ensures.unchanged (record {
      sound = c.self.invariant.sound;
      index = index-taken_back c.args.a.now c.args.s list _ _ _ holds.1.0 c.self.invariant.index c.in_ok-insert.ensures.inserted c.remove.ensures;
    })
