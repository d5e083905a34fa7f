use Rattle.std.proofs.Common.{rules, List, ◌≡◌, ◌≤◌, ◌-◌, ◌++◌, length, take, drop, ap, sym, ◌∙◌, subst, false, true, arith}
use Rattle.std.specs.Prelude.{All, IsTrue, ◌↔◌}
use Rattle.std.proofs.lemmas.List.{length-drop}
use Rattle.centre_events.specs.declared.entry.Entry.{Entry}
use Rattle.office.proofs.ShuffleLemmas.{folded_within, has_count, has_iff, released_few, released_folded}
use Rattle.office.specs.Receipts.{receipts_of}
use Rattle.office.specs.Shuffles.{AreSplit}
use Rattle.office.specs.declared.receipt.Receipt.{Receipt}
use Rattle.office.proofs.settling.has_its_entries.Goals.{then-len-entries_of-via-then-len-entries_of, then-len-entries_of-via-else-len-entries_of+then-released-count, then-len-entries_of-via-else-len-entries_of+else-released-count+then-not-is_released_within}
use Rattle.office.proofs.settling.has_its_entries.Goals as goal

pub returns-then-len-entries_of-clause-has : goal.returns-then-len-entries_of-clause-has
returns-then-len-entries_of-clause-has g c =
    let folded : List Entry = c.args.centre.now.known.folded in
    let journal : List Entry = c.args.centre.now.known.journal in
    let counted : c.entries_of-count.result ≡ length (receipts_of c.args.desk.now.number folded) = subst (λ n. c.entries_of-count.result ≡ length (receipts_of n folded)) c.number-number.ensures (c.entries_of-count.ensures folded c.requires.base) in
    let all : c.entries_of.result ≡ length (receipts_of c.args.desk.now.number (folded ++ journal)) = subst (λ n. c.entries_of.result ≡ length (receipts_of n (folded ++ journal))) c.number-number.ensures (c.entries_of.ensures (folded ++ journal) c.requires.all) in (
      λ t. absurd (let clash : false ≡ true = t in cc),
      λ has.
          elim c.then-len-entries_of.branch [
            | then-len-entries_of-via-then-len-entries_of w ↦
                let same : c.len.result ≡ c.entries_of.result = c.len.ensures ∙ has_count folded journal c.args.desk.now has ∙ sym all in
                absurd (w.if-len-entries_of.true same)
            | then-len-entries_of-via-else-len-entries_of+then-released-count w ↦
                let few : c.args.desk.now.released ≤ c.entries_of-count.result = released_few folded journal c.args.desk.now c.entries_of-count.result counted has in
                absurd (omega (arith, few, w.if-released-count.true, w.released.ensures))
            | then-len-entries_of-via-else-len-entries_of+else-released-count+then-not-is_released_within w ↦
                let places : All (λ (r : Receipt). r.place ≤ length folded) (take c.args.desk.now.released c.args.desk.now.receipts) = released_folded folded journal c.args.desk.now has in
                let is : IsTrue w.is_released_within.result = w.is_released_within.ensures.1 (subst (λ n. All (λ (r : Receipt). r.place ≤ n) (take c.args.desk.now.released c.args.desk.now.receipts)) (sym c.requires.folded) places) in
                absurd (let clash : false ≡ true = sym w.if-not-is_released_within.true ∙ is in cc)
          ],
    )

pub are_split-requires-clause-within : goal.are_split-requires-clause-within
are_split-requires-clause-within g c =
    let folded : List Entry = c.args.centre.now.known.folded in
    let journal : List Entry = c.args.centre.now.known.journal in
    let counted : c.entries_of-count.result ≡ length (receipts_of c.args.desk.now.number folded) = subst (λ n. c.entries_of-count.result ≡ length (receipts_of n folded)) c.number-number.ensures (c.entries_of-count.ensures folded c.requires.base) in
    let all : c.entries_of.result ≡ length (receipts_of c.args.desk.now.number (folded ++ journal)) = subst (λ n. c.entries_of.result ≡ length (receipts_of n (folded ++ journal))) c.number-number.ensures (c.entries_of.ensures (folded ++ journal) c.requires.all) in
    let same : c.len.result ≡ c.entries_of.result = search rules in
    let within : length (receipts_of c.args.desk.now.number folded) ≤ length (receipts_of c.args.desk.now.number (folded ++ journal)) = folded_within c.args.desk.now.number folded journal in
    let rest : length (drop c.args.desk.now.released c.args.desk.now.receipts) ≡ length c.args.desk.now.receipts - c.args.desk.now.released = length-drop c.args.desk.now.released c.args.desk.now.receipts in
    omega (arith, ap length c.receipts.ensures, rest, c.len.ensures, c.released-2.ensures, counted, all, same, within)

pub returns-clause-has : goal.returns-clause-has
returns-clause-has g c =
    let folded : List Entry = c.args.centre.now.known.folded in
    let journal : List Entry = c.args.centre.now.known.journal in
    let counted : c.entries_of-count.result ≡ length (receipts_of c.args.desk.now.number folded) = subst (λ n. c.entries_of-count.result ≡ length (receipts_of n folded)) c.number-number.ensures (c.entries_of-count.ensures folded c.requires.base) in
    let all : c.entries_of.result ≡ length (receipts_of c.args.desk.now.number (folded ++ journal)) = subst (λ n. c.entries_of.result ≡ length (receipts_of n (folded ++ journal))) c.number-number.ensures (c.entries_of.ensures (folded ++ journal) c.requires.all) in
    let same : c.len.result ≡ c.entries_of.result = search rules in
    let few : c.args.desk.now.released ≤ c.entries_of-count.result = search rules in
    let more : c.entries_of-count.result - c.released-2.result ≡ c.entries_of-count.result - c.args.desk.now.released = ap (λ n. c.entries_of-count.result - n) c.released-2.ensures in
    let is : IsTrue c.is_released_within.result = c.if-not-is_released_within.false in
    let first : All (λ (r : Receipt). r.place ≤ length folded) (take c.args.desk.now.released c.args.desk.now.receipts) = subst (λ n. All (λ (r : Receipt). r.place ≤ n) (take c.args.desk.now.released c.args.desk.now.receipts)) c.requires.folded (c.is_released_within.ensures.0 is) in
    let split : IsTrue c.are_split.result ↔ AreSplit c.args.desk.now.number (length folded) journal (c.entries_of-count.result - c.released-2.result) (drop c.args.desk.now.released c.args.desk.now.receipts) =
    subst (λ n. IsTrue c.are_split.result ↔ AreSplit n (length folded) journal (c.entries_of-count.result - c.released-2.result) (drop c.args.desk.now.released c.args.desk.now.receipts)) c.number-number.ensures
    (subst (λ n. IsTrue c.are_split.result ↔ AreSplit c.number-number.result n journal (c.entries_of-count.result - c.released-2.result) (drop c.args.desk.now.released c.args.desk.now.receipts)) c.requires.folded
    (subst (λ rs. IsTrue c.are_split.result ↔ AreSplit c.number-number.result c.args.folded journal (c.entries_of-count.result - c.released-2.result) rs) c.receipts.ensures c.are_split.ensures.are)) in
    has_iff folded journal c.args.desk.now c.entries_of-count.result (c.entries_of-count.result - c.released-2.result) c.are_split.result counted (sym c.len.ensures ∙ same ∙ all) few more first split
