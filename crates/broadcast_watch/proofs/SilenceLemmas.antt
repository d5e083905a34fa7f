-- What is known of a version, after the map of messages was changed at one.
use Rattle.std.proofs.Common.{◌≡◌, Bool, true, false, cond, List, [], Option, refl, sym, ap, ◌∙◌, arith}
use Rattle.std.specs.BTreeMap.{is_at}
use Rattle.std.specs.Map.{lookup}
use Rattle.std.specs.Option.{unwrap_or}
use Rattle.std.proofs.lemmas.Bool.Decides.{nat_tests}
use Rattle.std.proofs.lemmas.Grind.{common_steps}
use Rattle.broadcast_watch.specs.Silences.{Messages, Sets, spells_at}
use Rattle.broadcast_watch.specs.Versions.{is_version, key_cmp, key_of}
use Rattle.broadcast_watch.specs.declared.message_key.MessageKey.{MessageKey}
use Rattle.broadcast_watch.specs.declared.spell.Spell.{Spell}
use Rattle.link_rules.specs.declared.version.Version.{Version}

-- the map has this at the key of the version, and at other keys what it had
abbrev pub IsSetAt : Version → Option (List Spell) → Messages → Messages → Type 0
IsSetAt v spells old new = (q : MessageKey) → lookup (is_at (key_cmp q)) new ≡ cond (is_at (key_cmp (key_of v)) q) spells (lookup (is_at (key_cmp q)) old)

-- the keys of two versions are one where the versions are
at_key : (v w : Version) → is_at (key_cmp (key_of v)) (key_of w) ≡ is_version v w
at_key v w = grind (arith, nat_tests, common_steps)

-- then the version has these spells
pub sets : (v : Version) (spells : Option (List Spell)) (old new : Messages) → IsSetAt v spells old new → Sets v (unwrap_or spells []) old new
sets v spells old new set w =
    ap (λ o. unwrap_or o []) (set (key_of w)) ∙ ap (λ p. unwrap_or (cond p spells (lookup (is_at (key_cmp (key_of w))) old)) []) (at_key v w) ∙ step (is_version v w)
  where
    step : (p : Bool) → unwrap_or (cond p spells (lookup (is_at (key_cmp (key_of w))) old)) [] ≡ cond p (unwrap_or spells []) (spells_at w old)
    step true = refl
    step false = refl

-- a version of which nothing is known gets no spells
pub sets_none : (v : Version) (messages : Messages) → spells_at v messages ≡ [] → Sets v [] messages messages
sets_none v messages none w = step (is_version v w) refl
  where
    same : is_version v w ≡ true → w ≡ v
    same e = grind (arith, nat_tests, common_steps)

    step : (p : Bool) → is_version v w ≡ p → spells_at w messages ≡ cond p [] (spells_at w messages)
    step true e = ap (λ u. spells_at u messages) (same e) ∙ none
    step false e = refl

-- what was set twice has what was set last
pub sets_again : (v : Version) (first last : List Spell) (old mid new : Messages) → Sets v first old mid → Sets v last mid new → Sets v last old new
sets_again v first last old mid new one two w = two w ∙ ap (cond (is_version v w) last) (one w) ∙ step (is_version v w)
  where
    step : (p : Bool) → cond p last (cond p first (spells_at w old)) ≡ cond p last (spells_at w old)
    step true = refl
    step false = refl

-- what was set to nothing is known of nothing
pub none_at : (v : Version) (old new : Messages) → Sets v [] old new → spells_at v new ≡ []
none_at v old new set = set v ∙ ap (λ p. cond p [] (spells_at v old)) itself
  where
    itself : is_version v v ≡ true
    itself = grind (arith, nat_tests, common_steps)
