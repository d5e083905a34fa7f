-- What holds of a board's numbers as sums, where one line changes.
use Rattle.std.proofs.Common.{◌≡◌, ℕ, ◌+◌, ◌-◌, ◌≤◌, Bool, true, false, List, [], ◌∷◌, if◌then◌else◌, nat_eq, refl, sym, subst, ◌∙◌, ap, arith}
use Rattle.std.specs.Cmp.{unsigned_Decides}
use Rattle.std.specs.List.{list_any, list_all}
use Rattle.common.specs.OnceLaws.{DecidesAll, turned}
use Rattle.common.specs.Order.{each_once}
use Rattle.common.specs.SumLaws.{sums_agree}
use Rattle.common.specs.Sums.{sum_of}
use Rattle.coverage_board.specs.Counting.{numbers_of, IsNumber, IsSum, part_of}
use Rattle.coverage_board.specs.Numbers.{zero_numbers, added, moved, Holds}
use Rattle.coverage_board.specs.SumLaws.{SameBut, with_line, once_with, absent_with, sum_moved, part_in_sum}
use Rattle.coverage_board.specs.declared.numbers.Numbers.{Numbers}

-- the five numbers

pub awaited_number : IsNumber (λ n. n.awaited)
awaited_number = record { zero = refl; plus = λ n p. refl }

pub on_air_number : IsNumber (λ n. n.on_air)
on_air_number = record { zero = refl; plus = λ n p. refl }

pub failed_number : IsNumber (λ n. n.failed)
failed_number = record { zero = refl; plus = λ n p. refl }

pub left_number : IsNumber (λ n. n.left)
left_number = record { zero = refl; plus = λ n p. refl }

pub broadcasts_number : IsNumber (λ n. n.broadcasts)
broadcasts_number = record { zero = refl; plus = λ n p. refl }

-- numbers that agree in each of the five are the same
pub numbers_by : (n p : Numbers) → ((h : Numbers → ℕ) → IsNumber h → h n ≡ h p) → n ≡ p
numbers_by n p e = λ i. record {
  awaited = e (λ m. m.awaited) awaited_number i;
  on_air = e (λ m. m.on_air) on_air_number i;
  failed = e (λ m. m.failed) failed_number i;
  left = e (λ m. m.left) left_number i;
  broadcasts = e (λ m. m.broadcasts) broadcasts_number i;
}

-- and numbers none of which is above that of others are a part of them
pub holds_by : (n p : Numbers) → ((h : Numbers → ℕ) → IsNumber h → h p ≤ h n) → Holds n p
holds_by n p e = record {
  awaited = e (λ m. m.awaited) awaited_number;
  on_air = e (λ m. m.on_air) on_air_number;
  failed = e (λ m. m.failed) failed_number;
  left = e (λ m. m.left) left_number;
  broadcasts = e (λ m. m.broadcasts) broadcasts_number;
}

-- what is moved from p, a part of the numbers, to q, as a sum on both sides

moved_back : (n p q : ℕ) → p ≤ n → n - p + q + p ≡ n + q
moved_back n p q h = omega arith

moved_only : (m n p q : ℕ) → m + p ≡ n + q → p ≤ n → m ≡ n - p + q
moved_only m n p q e h = omega arith

pub moved_sum : (n p q : Numbers) → Holds n p → added (moved n p q) p ≡ added n q
moved_sum n p q h = λ i. record {
  awaited = moved_back n.awaited p.awaited q.awaited h.awaited i;
  on_air = moved_back n.on_air p.on_air q.on_air h.on_air i;
  failed = moved_back n.failed p.failed q.failed h.failed i;
  left = moved_back n.left p.left q.left h.left i;
  broadcasts = moved_back n.broadcasts p.broadcasts q.broadcasts h.broadcasts i;
}

pub moved_is : (m n p q : Numbers) → added m p ≡ added n q → Holds n p → m ≡ moved n p q
moved_is m n p q e h = λ i. record {
  awaited = moved_only m.awaited n.awaited p.awaited q.awaited (ap (λ k. k.awaited) e) h.awaited i;
  on_air = moved_only m.on_air n.on_air p.on_air q.on_air (ap (λ k. k.on_air) e) h.on_air i;
  failed = moved_only m.failed n.failed p.failed q.failed (ap (λ k. k.failed) e) h.failed i;
  left = moved_only m.left n.left p.left q.left (ap (λ k. k.left) e) h.left i;
  broadcasts = moved_only m.broadcasts n.broadcasts p.broadcasts q.broadcasts (ap (λ k. k.broadcasts) e) h.broadcasts i;
}

-- what a shift of the warning w from p to q says of each warning v, as a sum on both sides
pub shifted_sum : (old new : ℕ → Numbers) (w : ℕ) (p q : Numbers) → Holds (old w) p → ((v : ℕ) → new v ≡ (if nat_eq w v then moved (old v) p q else old v)) → (v : ℕ) → added (new v) (part_of w v p) ≡ added (old v) (part_of w v q)
shifted_sum old new w p q h is v = step (nat_eq w v) refl (is v)
  where
    step : (t : Bool) → nat_eq w v ≡ t → new v ≡ (if t then moved (old v) p q else old v) → added (new v) (if t then p else zero_numbers) ≡ added (old v) (if t then q else zero_numbers)
    step true e g =
        let there : Holds (old v) p = subst (λ k. Holds (old k) p) ((unsigned_Decides w v).0 e) h in
        ap (λ n. added n p) g ∙ moved_sum (old v) p q there
    step false e g = ap (λ n. added n zero_numbers) g

-- each of the five numbers of a sum is a sum
pub number_of_sum : {A : Type 0} (h : Numbers → ℕ) → IsNumber h → (f : A → Numbers) (xs : List A) → h (numbers_of f xs) ≡ sum_of (λ x. h (f x)) xs
number_of_sum h is f [] = is.zero
number_of_sum h is f (x ∷ xs) = is.plus (f x) (numbers_of f xs) ∙ ap (λ n. h (f x) + n) (number_of_sum h is f xs)

-- equal functions have equal sums
pub numbers_same : {A : Type 0} (f g : A → Numbers) → ((x : A) → f x ≡ g x) → (xs : List A) → numbers_of f xs ≡ numbers_of g xs
numbers_same f g e [] = refl
numbers_same f g e (x ∷ xs) = rw (e x, numbers_same f g e xs) refl

-- where no line adds anything the numbers are zero
pub no_sum : {A : Type 0} (same : A → A → Bool) (is_line : A → Bool) (f : A → Numbers) → ((x : A) → f x ≡ zero_numbers) → IsSum same is_line f zero_numbers
no_sum same is_line f e = record { lines = []; once = refl; all = refl; elsewhere = λ x h. e x; sum = refl }

-- numbers are the sum of one function where they are that of another equal to it
pub same_sum : {A : Type 0} (same : A → A → Bool) (is_line : A → Bool) (f g : A → Numbers) (n : Numbers) → ((x : A) → g x ≡ f x) → IsSum same is_line f n → IsSum same is_line g n
same_sum same is_line f g n e s = record {
  lines = s.lines;
  once = s.once;
  all = s.all;
  elsewhere = λ x h. e x ∙ s.elsewhere x h;
  sum = s.sum ∙ numbers_same f g (λ x. sym (e x)) s.lines;
}

-- they are the sum over any lines, each once, away from which nothing is added
pub sum_over : {A : Type 0} (same : A → A → Bool) (is_line : A → Bool) → DecidesAll same → (f : A → Numbers) (n : Numbers) → IsSum same is_line f n → (ys : List A) → each_once same ys ≡ true → ((x : A) → list_any (same x) ys ≡ false → f x ≡ zero_numbers) → n ≡ numbers_of f ys
sum_over {A} same is_line d f n s ys once off = s.sum ∙ numbers_by (numbers_of f s.lines) (numbers_of f ys) at_each
  where
    at_each : (h : Numbers → ℕ) → IsNumber h → h (numbers_of f s.lines) ≡ h (numbers_of f ys)
    at_each h is =
        number_of_sum h is f s.lines
        ∙ sums_agree same d s.lines ys s.once once (λ x. h (f x)) (λ x e. ap h (s.elsewhere x e) ∙ is.zero) (λ x e. ap h (off x e) ∙ is.zero)
        ∙ sym (number_of_sum h is f ys)

-- what a line adds is a part of them
pub part_is_there : {A : Type 0} (same : A → A → Bool) (is_line : A → Bool) → DecidesAll same → (f : A → Numbers) (n : Numbers) → IsSum same is_line f n → (c : A) → Holds n (f c)
part_is_there {A} same is_line d f n s c = holds_by n (f c) at_each
  where
    at_each : (h : Numbers → ℕ) → IsNumber h → h (f c) ≤ h n
    at_each h is =
        rw (s.sum, number_of_sum h is f s.lines) (part_in_sum same d c (λ x. h (f x)) s.lines (λ e. ap h (s.elsewhere c e) ∙ is.zero))

-- one line adds something else: the sum of what the lines add now are the numbers that are tied to the old ones so
pub sum_follows : {A : Type 0} (same : A → A → Bool) (is_line : A → Bool) → DecidesAll same → (f g : A → Numbers) (c : A) → is_line c ≡ true → SameBut same c f g → (n m : Numbers) → added m (f c) ≡ added n (g c) → IsSum same is_line f n → IsSum same is_line g m
sum_follows {A} same is_line d f g c line but n m tied s = record {
  lines = with_line same c s.lines;
  once = once_with same c s.lines s.once;
  all = all_with (list_any (same c) s.lines);
  elsewhere = λ x h. off x (absent_with same d c s.lines x h);
  sum = numbers_by m (numbers_of g (with_line same c s.lines)) at_each;
}
  where
    all_with : (t : Bool) → list_all is_line (if t then s.lines else c ∷ s.lines) ≡ true
    all_with true = s.all
    all_with false = rw (line, s.all) refl

    off : (x : A) → (list_any (same x) s.lines ≡ false) × (same x c ≡ false) → g x ≡ zero_numbers
    off x h = but x (turned same d c x ∙ h.1) ∙ s.elsewhere x h.0

    cancelled : (a b p q e : ℕ) → a + p ≡ b + q → e + p ≡ b + q → a ≡ e
    cancelled a b p q e i j = omega arith

    at_each : (h : Numbers → ℕ) → IsNumber h → h m ≡ h (numbers_of g (with_line same c s.lines))
    at_each h is =
        let kept : h n ≡ sum_of (λ x. h (f x)) s.lines = ap h s.sum ∙ number_of_sum h is f s.lines in
        let tie : h m + h (f c) ≡ h n + h (g c) = sym (is.plus m (f c)) ∙ ap h tied ∙ is.plus n (g c) in
        let moves = sum_moved same d c (λ x. h (f x)) (λ x. h (g x)) (λ x e. ap h (but x e)) s.lines s.once (λ e. ap h (s.elsewhere c e) ∙ is.zero) in
        cancelled (h m) (h n) (h (f c)) (h (g c)) (sum_of (λ x. h (g x)) (with_line same c s.lines)) tie (moves ∙ ap (λ k. k + h (g c)) (sym kept))
        ∙ sym (number_of_sum h is g (with_line same c s.lines))
