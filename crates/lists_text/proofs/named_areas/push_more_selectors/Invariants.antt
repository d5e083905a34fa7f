use Rattle.std.proofs.Common.{◌≡◌, ◌++◌, drop, map}
use Rattle.lists_text.specs.ListTexts.{after_commas, selector_text}
use Rattle.lists_text.proofs.named_areas.push_more_selectors.Given as goal

-- the text so far, and the selectors ahead, are the whole text
abbrev pub invariant-loop-selector : goal.invariant-loop-selector
invariant-loop-selector l = l.text.items ++ after_commas (map selector_text (drop l.selector-index l.selectors)) ≡ l.initial.text.items ++ after_commas (map selector_text l.selectors)
