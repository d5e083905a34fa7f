use Rattle.coverage_plan.proofs.plan.Plan.tell_soundness.Goals as goal

pub returns : goal.returns
returns c = rw (← c.self.view_is) (record {
  registered = c.tell_soundness.ensures;
  areas_ascend = c.tell_soundness-2.ensures.ascending;
  selectors_once = c.tell_soundness-2.ensures.once;
  warnings_ascend = c.tell_soundness-3.ensures.ordered;
})
