-- How a list of changes takes tables from one view to another, change by change.
use Rattle.std.proofs.Common.{◌≡◌, ℕ, ◌<◌, ◌≤◌, Bool, true, false, ◌||◌, List, [], ◌∷◌, ◌++◌, Option, Some, length, refl, sym, ◌∙◌, ap, subst, if◌then◌else◌}
use Rattle.std.proofs.lemmas.Bool.{or_parts, or_from}
use Rattle.std.proofs.lemmas.List.Folds.{list_any-append}
use Rattle.common.specs.OnceLaws.{turned}
use Rattle.kept_tables.proofs.BroadcastLemmas.{few_between, mixed_between}
use Rattle.kept_tables.proofs.ViewLemmas.{changed, has_part}
use Rattle.kept_tables.specs.Changes.{Begins, Change, changes_key, mixed, Tells}
use Rattle.kept_tables.specs.Consistent.{Consistent, is_deed, is_in_range, Owned}
use Rattle.kept_tables.specs.Facts.{deeds_of}
use Rattle.kept_tables.specs.SpotLaws.{key_decides}
use Rattle.kept_tables.specs.Tables.{HasPart, Shifted, Tables}
use Rattle.kept_tables.specs.View.{key_eq, spot_of, updated, View}
use Rattle.kept_tables.specs.declared.line_facts.LineFacts.{LineFacts}
use Rattle.mirror.specs.Line.{state_of}
use Rattle.mirror.specs.declared.line_key.LineKey.{LineKey}
use Rattle.order_maker.specs.declared.deed.Deed.{Deed}

-- a change tells what is read of its line in both views, and no change before it is of its line
tells_at : (from to : View) (done : List Change) (x : Change) (later : List Change) → Tells from to (done ++ x ∷ later) → (changes_key x.key done ≡ false) × ((from x.key ≡ x.before) × (to x.key ≡ x.after))
tells_at from to [] x later h = (refl, (h.0, h.1.0))
tells_at from to (y ∷ done) x later h =
    let rest = tells_at from to done x later h.1.1.1 in
    let none : (changes_key y.key done || changes_key y.key (x ∷ later)) ≡ false = sym (list_any-append (λ z. key_eq y.key z.key) done (x ∷ later)) ∙ h.1.1.0 in
    let other = or_parts (key_eq y.key x.key) (changes_key y.key later) (or_parts (changes_key y.key done) (changes_key y.key (x ∷ later)) none).1 in
    (or_from (key_eq x.key y.key) (changes_key x.key done) (turned key_eq key_decides x.key y.key ∙ other.0) rest.0, rest.1)

changes_last : (k : LineKey) (done : List Change) (x : Change) → changes_key k (done ++ x ∷ []) ≡ (changes_key k done || (key_eq k x.key || false))
changes_last k done x = list_any-append (λ z. key_eq k z.key) done (x ∷ [])

-- the view that comes of one more change
mixed_more : (from to : View) (done : List Change) (x : Change) → to x.key ≡ x.after → updated (mixed from to done) x.key x.after ≡ mixed from to (done ++ x ∷ [])
mixed_more from to done x e = λ i. λ k. at_line k (key_eq x.key k) refl (changes_key k done) refl i
  where
    at_line : (k : LineKey) (b : Bool) → key_eq x.key k ≡ b → (c : Bool) → changes_key k done ≡ c → updated (mixed from to done) x.key x.after k ≡ mixed from to (done ++ x ∷ []) k
    at_line k true h c g =
        let is : x.key ≡ k = (key_decides x.key k).0 h in
        let last : changes_key k (done ++ x ∷ []) ≡ true = changes_last k done x ∙ (λ i. changes_key k done || ((turned key_eq key_decides k x.key ∙ h) i || false)) ∙ any_true (changes_key k done) in
        ap (λ b. if b then x.after else mixed from to done k) h ∙ sym e ∙ ap to is ∙ sym (ap (λ b. if b then to k else from k) last)
      where
        any_true : (b : Bool) → (b || (true || false)) ≡ true
        any_true true = refl
        any_true false = refl
    at_line k false h c g =
        let last : changes_key k (done ++ x ∷ []) ≡ changes_key k done = changes_last k done x ∙ (λ i. changes_key k done || ((turned key_eq key_decides k x.key ∙ h) i || false)) ∙ or_none (changes_key k done) in
        ap (λ b. if b then x.after else mixed from to done k) h ∙ sym (ap (λ b. if b then to k else from k) last)
      where
        or_none : (b : Bool) → (b || (false || false)) ≡ b
        or_none true = refl
        or_none false = refl

-- who owns the messages of both views owns those of the view between them
owned_mixed : (owner : ℕ → ℕ → Option ℕ) (from to : View) (changes : List Change) → Owned owner from → Owned owner to → Owned owner (mixed from to changes)
owned_mixed owner from to changes first second = record { owns = λ k d h. step k d (changes_key k changes) h }
  where
    step : (k : LineKey) (d : Deed) (b : Bool) → is_deed d (deeds_of (if b then to k else from k)) ≡ true → owner d.message_id d.serial ≡ Some k.warning
    step k d true h = second.owns k d h
    step k d false h = first.owns k d h

next_tells : (from to : View) (changes done : List Change) (x : Change) (later : List Change) → changes ≡ done ++ x ∷ later → Tells from to changes → (changes_key x.key done ≡ false) × ((from x.key ≡ x.before) × (to x.key ≡ x.after))
next_tells from to changes done x later split tells = tells_at from to done x later (subst (Tells from to) split tells)

next_before : (from to : View) (changes done : List Change) (x : Change) (later : List Change) → changes ≡ done ++ x ∷ later → Tells from to changes → mixed from to done x.key ≡ x.before
next_before from to changes done x later split tells =
    let next = next_tells from to changes done x later split tells in
    ap (λ b. if b then to x.key else from x.key) next.0 ∙ next.1.0

-- the tables have the part of the change that is next
pub next_part : (old : Tables) (changes : List Change) (b : Begins old changes) (t : Tables) (done : List Change) (x : Change) (later : List Change) → changes ≡ done ++ x ∷ later → is_in_range (spot_of x.key) ≡ true → ((s : ℕ) → (state_of x.after.line s).count < 65536) → Consistent t (mixed b.from b.to done) → HasPart t x.key x.before x.after
next_part old changes b t done x later split fit low is =
    let next = next_tells b.from b.to changes done x later split b.tells in
    let between = mixed_between b.from b.to done in
    let few = few_between (mixed b.from b.to done) b.from b.to between b.few_from b.few_to in
    let short : length x.after.versions ≤ 16 = subst (λ (f : LineFacts). length f.versions ≤ 16) next.1.1 (b.few_to x.key) in
    has_part t (mixed b.from b.to done) b.from b.to x.key x.before x.after fit (next_before b.from b.to changes done x later split b.tells) between b.placed_from b.placed_to few low short is

-- one more change is done
pub settled_more : (old : Tables) (changes : List Change) (b : Begins old changes) (t u : Tables) (done : List Change) (x : Change) (later : List Change) → changes ≡ done ++ x ∷ later → is_in_range (spot_of x.key) ≡ true → ((s : ℕ) → (state_of x.after.line s).count < 65536) → Consistent t (mixed b.from b.to done) → Shifted t u x.key x.before x.after → Consistent u (mixed b.from b.to (done ++ x ∷ []))
settled_more old changes b t u done x later split fit low is shifted =
    let next = next_tells b.from b.to changes done x later split b.tells in
    let whole : updated (mixed b.from b.to done) x.key x.after ≡ mixed b.from b.to (done ++ x ∷ []) = mixed_more b.from b.to done x next.1.1 in
    let also : Owned b.owner (updated (mixed b.from b.to done) x.key x.after) = subst (Owned b.owner) (sym whole) (owned_mixed b.owner b.from b.to (done ++ x ∷ []) b.owns_from b.owns_to) in
    subst (Consistent u) whole (changed t u (mixed b.from b.to done) x.key x.before x.after b.owner fit (next_before b.from b.to changes done x later split b.tells) (owned_mixed b.owner b.from b.to done b.owns_from b.owns_to) also low shifted is)
