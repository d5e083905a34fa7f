-- Lists of octets: their parts, and numbers and identifications as octets.
use Rattle.std.proofs.Common.{ℕ, zero, suc, ◌/◌, ◌%◌, ◌<◌, List, [], ◌∷◌, ◌++◌, arith}
use Rattle.std.specs.Int.{bytes_high_first}
use Rattle.cbsp_ie.specs.declared.cell_id.CellId.{CellId}
use Rattle.cbsp_ie.specs.declared.cell_id.CellId.TheVariants as id
use Rattle.cbsp_ie.specs.CellId.{IsCellId, id_octets}
use Rattle.hex.specs.Hex.{IsBytes}

pub bytes_none : IsBytes []
bytes_none i = omega arith

pub bytes_cons : (x : ℕ) (xs : List ℕ) → x < 256 → IsBytes xs → IsBytes (x ∷ xs)
bytes_cons x xs small bytes zero = small
bytes_cons x xs small bytes (suc i) = bytes i

pub bytes_append : (xs ys : List ℕ) → IsBytes xs → IsBytes ys → IsBytes (xs ++ ys)
bytes_append [] ys front back = back
bytes_append (x ∷ xs) ys front back = bytes_cons x (xs ++ ys) (front 0) (bytes_append xs ys (λ i. front (suc i)) back)

pub bytes_front : (xs ys : List ℕ) → IsBytes (xs ++ ys) → IsBytes xs
bytes_front [] ys bytes = bytes_none
bytes_front (x ∷ xs) ys bytes = bytes_cons x xs (bytes 0) (bytes_front xs ys (λ i. bytes (suc i)))

pub bytes_back : (xs ys : List ℕ) → IsBytes (xs ++ ys) → IsBytes ys
bytes_back [] ys bytes = bytes
bytes_back (x ∷ xs) ys bytes = bytes_back xs ys (λ i. bytes (suc i))

-- a number of two octets
pub bytes_two : (n : ℕ) → IsBytes (bytes_high_first 2 n)
bytes_two n = bytes_cons (n / 256 % 256) ((n % 256) ∷ []) (omega arith) (bytes_cons (n % 256) [] (omega arith) bytes_none)

-- a number of three
pub bytes_three : (n : ℕ) → IsBytes (bytes_high_first 3 n)
bytes_three n = bytes_cons (n / 65536 % 256) (bytes_high_first 2 n) (omega arith) (bytes_two n)

-- an identification
pub bytes_id : (i : CellId) → IsCellId i → IsBytes (id_octets i)
bytes_id (id.Global plmn lac ci) h =
    bytes_append plmn (bytes_high_first 2 lac ++ bytes_high_first 2 ci) h.0.1 (bytes_append (bytes_high_first 2 lac) (bytes_high_first 2 ci) (bytes_two lac) (bytes_two ci))
bytes_id (id.LacCi lac ci) h = bytes_append (bytes_high_first 2 lac) (bytes_high_first 2 ci) (bytes_two lac) (bytes_two ci)
bytes_id (id.Ci ci) h = bytes_two ci
bytes_id (id.Lai plmn lac) h = bytes_append plmn (bytes_high_first 2 lac) h.0.1 (bytes_two lac)
bytes_id (id.Lac lac) h = bytes_two lac
bytes_id id.All h = bytes_none
