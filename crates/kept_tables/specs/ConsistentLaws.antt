-- What follows where tables are consistent with a view, and with which other views they are consistent then.
use Rattle.std.proofs.Common.{◌≡◌, ◌<◌, ℕ, Bool, true, false, List, [], Option, Some, None, refl, sym, ◌∙◌, ap, subst}
use Rattle.common.specs.Order.{each_once}
use Rattle.common.specs.SumLaws.{sums_agree}
use Rattle.coverage_board.specs.Board.{total_of, area_of}
use Rattle.coverage_board.specs.Numbers.{zero_numbers}
use Rattle.coverage_board.specs.declared.numbers.Numbers.{Numbers}
use Rattle.kept_tables.specs.Consistent.{Consistent, Owned, acts_by, deed_of, is_deed, sum_numbers}
use Rattle.kept_tables.specs.CountLaws.{counted_blank}
use Rattle.kept_tables.specs.Facts.{no_facts, deeds_of, total_of_line, area_of_line}
use Rattle.kept_tables.specs.FactsLaws.{total_of_none, area_of_none}
use Rattle.kept_tables.specs.Same.{SamePart}
use Rattle.kept_tables.specs.SpotLaws.{spot_decides}
use Rattle.kept_tables.specs.Tables.{IsEmpty, SameTables, Tables}
use Rattle.kept_tables.specs.View.{View, key_of, key_at, spot_eq, is_spot}
use Rattle.kept_tables.specs.declared.spot.Spot.{Spot}
use Rattle.mirror.specs.Line.{state_of}
use Rattle.mirror.specs.declared.line_key.LineKey.{LineKey}
use Rattle.order_maker.specs.Pending.{action_eq, holds, is_listed, IsListOf}
use Rattle.order_maker.specs.declared.action.Action.{Action}

-- equal functions have equal sums
pub sums_same : {A : Type 0} (f g : A → Numbers) → ((x : A) → f x ≡ g x) → (xs : List A) → sum_numbers f xs ≡ sum_numbers g xs
sums_same {A} f g e xs = let whole : f ≡ g = λ i. λ x. e x i in ap (λ (k : A → Numbers). sum_numbers k xs) whole

-- the sums over two lists, each cell at its BSC once, outside which nothing is added, are equal
pub numbers_agree : (f : Spot → Numbers) (xs ys : List Spot) → each_once spot_eq xs ≡ true → each_once spot_eq ys ≡ true → ((s : Spot) → is_spot s xs ≡ false → f s ≡ zero_numbers) → ((s : Spot) → is_spot s ys ≡ false → f s ≡ zero_numbers) → sum_numbers f xs ≡ sum_numbers f ys
numbers_agree f xs ys once also out off =
    λ i. record {
      awaited = sums_agree spot_eq spot_decides xs ys once also (λ s. (f s).awaited) (λ s h. ap (λ n. n.awaited) (out s h)) (λ s h. ap (λ n. n.awaited) (off s h)) i;
      on_air = sums_agree spot_eq spot_decides xs ys once also (λ s. (f s).on_air) (λ s h. ap (λ n. n.on_air) (out s h)) (λ s h. ap (λ n. n.on_air) (off s h)) i;
      failed = sums_agree spot_eq spot_decides xs ys once also (λ s. (f s).failed) (λ s h. ap (λ n. n.failed) (out s h)) (λ s h. ap (λ n. n.failed) (off s h)) i;
      left = sums_agree spot_eq spot_decides xs ys once also (λ s. (f s).left) (λ s h. ap (λ n. n.left) (out s h)) (λ s h. ap (λ n. n.left) (off s h)) i;
      broadcasts = sums_agree spot_eq spot_decides xs ys once also (λ s. (f s).broadcasts) (λ s h. ap (λ n. n.broadcasts) (out s h)) (λ s h. ap (λ n. n.broadcasts) (off s h)) i;
    }

-- the numbers of a warning are the sums over any cells at their BSCs, each once, elsewhere than which nothing is added
pub total_is : (t : Tables) (v : View) → Consistent t v → (w : ℕ) (spots : List Spot) → each_once spot_eq spots ≡ true → ((s : Spot) → is_spot s spots ≡ false → total_of_line (v (key_at s w)) ≡ zero_numbers) → total_of t.board w ≡ sum_numbers (λ s. total_of_line (v (key_at s w))) spots
total_is t v is w spots once off =
    is.counts.totals w ∙ numbers_agree (λ s. total_of_line (v (key_at s w))) is.counts.spots spots is.counts.once once (λ s h. is.counts.no_total s w h) off

-- and so are those of an area
pub area_is : (t : Tables) (v : View) → Consistent t v → (w : ℕ) (a : List ℕ) (spots : List Spot) → each_once spot_eq spots ≡ true → ((s : Spot) → is_spot s spots ≡ false → area_of_line a (v (key_at s w)) ≡ zero_numbers) → area_of t.board w a ≡ sum_numbers (λ s. area_of_line a (v (key_at s w))) spots
area_is t v is w a spots once off =
    is.counts.areas w a ∙ numbers_agree (λ s. area_of_line a (v (key_at s w))) is.counts.spots spots is.counts.once once (λ s h. is.counts.no_area s w a h) off

-- an action that is to be ordered on a line is one of the warning that owns its message
acts_from : (v : View) (owner : ℕ → ℕ → Option ℕ) → Owned owner v → (o : Option ℕ) (b : ℕ) (a : Action) → acts_by v o b a ≡ true → owner a.message_id a.serial ≡ o
acts_from v owner owned None b a h = cc
acts_from v owner owned (Some w) b a h = owned.owns (key_of b a.cell w) (deed_of a) h

-- whoever owns the messages, the same is to be ordered
pub owners_agree : (v : View) (owner other : ℕ → ℕ → Option ℕ) → Owned owner v → Owned other v → (b : ℕ) (a : Action) → acts_by v (owner a.message_id a.serial) b a ≡ acts_by v (other a.message_id a.serial) b a
owners_agree v owner other owned also b a =
    step (acts_by v (owner a.message_id a.serial) b a) refl (acts_by v (other a.message_id a.serial) b a) refl
  where
    step : (p : Bool) → acts_by v (owner a.message_id a.serial) b a ≡ p → (q : Bool) → acts_by v (other a.message_id a.serial) b a ≡ q → p ≡ q
    step true e q f =
        let one : other a.message_id a.serial ≡ owner a.message_id a.serial = acts_from v other also (owner a.message_id a.serial) b a e in
        sym e ∙ ap (λ o. acts_by v o b a) (sym one) ∙ f
    step false e true f =
        let one : owner a.message_id a.serial ≡ other a.message_id a.serial = acts_from v owner owned (other a.message_id a.serial) b a f in
        sym e ∙ ap (λ o. acts_by v o b a) one ∙ f
    step false e false f = refl

-- what is pending is what is to be ordered, whoever owns the messages
pub pending_is : (t : Tables) (v : View) (owner : ℕ → ℕ → Option ℕ) → Owned owner v → Consistent t v → (b : ℕ) (a : Action) → holds t.pending b a ≡ acts_by v (owner a.message_id a.serial) b a
pending_is t v owner owned is b a = is.acts b a ∙ owners_agree v is.owner owner is.owned owned b a

-- so actions that are to be ordered at a BSC, each once, are those that are pending for it
pub listed_is : (t : Tables) (v : View) (owner : ℕ → ℕ → Option ℕ) → Owned owner v → Consistent t v → (b : ℕ) (xs : List Action) → each_once action_eq xs ≡ true → ((a : Action) → is_listed a xs ≡ acts_by v (owner a.message_id a.serial) b a) → IsListOf xs t.pending b
listed_is t v owner owned is b xs once same = record { once = once; same = λ a. same a ∙ sym (pending_is t v owner owned is b a) }

-- tables are consistent with each view that has the same part in them
pub same_parts : (t : Tables) (v w : View) → ((k : LineKey) → SamePart (v k) (w k)) → Consistent t v → Consistent t w
same_parts t v w same is = record {
  lines = λ k. is.lines k ∙ (same k).line;
  owner = is.owner;
  owned = record { owns = λ k d h. is.owned.owns k d (ap (is_deed d) (same k).deeds ∙ h) };
  acts = λ b a. is.acts b a ∙ acts_same (is.owner a.message_id a.serial) b a;
  counts = record {
    spots = is.counts.spots;
    once = is.counts.once;
    in_range = is.counts.in_range;
    no_total = λ s n h. sym (same (key_at s n)).total ∙ is.counts.no_total s n h;
    no_area = λ s n a h. sym ((same (key_at s n)).area a) ∙ is.counts.no_area s n a h;
    totals = λ n. is.counts.totals n ∙ sums_same (λ s. total_of_line (v (key_at s n))) (λ s. total_of_line (w (key_at s n))) (λ s. (same (key_at s n)).total) is.counts.spots;
    areas = λ n a. is.counts.areas n a ∙ sums_same (λ s. area_of_line a (v (key_at s n))) (λ s. area_of_line a (w (key_at s n))) (λ s. (same (key_at s n)).area a) is.counts.spots;
  };
  counted = λ k s. subst (λ l. (state_of l s).count < 65536) (same k).line (is.counted k s);
}
  where
    acts_same : (o : Option ℕ) (b : ℕ) (a : Action) → acts_by v o b a ≡ acts_by w o b a
    acts_same None b a = refl
    acts_same (Some n) b a = ap (is_deed (deed_of a)) (same (key_of b a.cell n)).deeds

-- tables with the same lines, actions and numbers are consistent with the same views
pub same_tables : (t u : Tables) (v : View) → SameTables t u → Consistent t v → Consistent u v
same_tables t u v same is = record {
  lines = λ k. same.lines k.bsc k.cell k.warning ∙ is.lines k;
  owner = is.owner;
  owned = is.owned;
  acts = λ b a. same.acts b a ∙ is.acts b a;
  counts = record {
    spots = is.counts.spots;
    once = is.counts.once;
    in_range = is.counts.in_range;
    no_total = is.counts.no_total;
    no_area = is.counts.no_area;
    totals = λ w. same.totals w ∙ is.counts.totals w;
    areas = λ w a. same.areas w a ∙ is.counts.areas w a;
  };
  counted = is.counted;
}

-- empty tables are consistent with a view in which no warning is in the book
pub empty_consistent : (t : Tables) (v : View) (down here : LineKey → Bool) → ((k : LineKey) → v k ≡ no_facts (down k) (here k)) → IsEmpty t → Consistent t v
empty_consistent t v down here none empty = record {
  lines = λ k. empty.lines k.bsc k.cell k.warning ∙ sym (ap (λ f. f.line) (none k));
  owner = λ m s. None;
  owned = record { owns = λ k d h. absurd (let no : false ≡ true = sym (ap (λ f. is_deed d (deeds_of f)) (none k)) ∙ h in cc) };
  acts = empty.acts;
  counts = record {
    spots = [];
    once = refl;
    in_range = refl;
    no_total = λ s w h. ap total_of_line (none (key_at s w)) ∙ total_of_none (down (key_at s w)) (here (key_at s w));
    no_area = λ s w a h. ap (area_of_line a) (none (key_at s w)) ∙ area_of_none a (down (key_at s w)) (here (key_at s w));
    totals = empty.totals;
    areas = empty.areas;
  };
  counted = λ k s. subst (λ f. (state_of f.line s).count < 65536) (sym (none k)) (counted_blank s);
}
