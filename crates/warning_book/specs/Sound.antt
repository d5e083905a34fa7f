-- What holds of every book.
use Rattle.std.specs.Prelude.{◌≡◌, ◌≤◌, ℕ, Bool, true, false, ◌&&◌, List, Option, Some, None, map, bytes_eq, nat_eq, nat_le, length}
use Rattle.std.specs.List.{list_all}
use Rattle.serials.specs.Serials.{scope_part, code_of}
use Rattle.common.specs.Order.{is_ascending, each_once}
use Rattle.warning_book.specs.Book.{State, number_lt, last_serial, code_in, first_kind}
use Rattle.warning_book.specs.Content.{content_kind, is_same_kind, have_pages, has_period}
use Rattle.warning_book.specs.declared.kind.Kind.{Kind}
use Rattle.warning_book.specs.declared.version.Version.{Version}
use Rattle.warning_book.specs.declared.warning.Warning.{Warning}

-- its number was given
abbrev pub was_issued : ℕ → Warning → Bool
was_issued issued w = nat_le 1 w.number && nat_le w.number issued

-- it names 1 to 16 areas, each once
abbrev pub has_areas : Warning → Bool
has_areas w = (nat_le 1 (length w.areas) && nat_le (length w.areas) 16) && each_once bytes_eq w.areas

-- its content can be broadcast
abbrev pub is_good : Version → Bool
is_good v = have_pages v.content && has_period v.content

-- each of its versions can be broadcast
abbrev pub has_contents : Warning → Bool
has_contents w = list_all is_good w.versions

-- there are 1 to 16 versions
abbrev pub are_few : List Version → Bool
are_few versions = nat_le 1 (length versions) && nat_le (length versions) 16

-- no two of the versions have the same serial number
abbrev pub stand_once : List Version → Bool
stand_once versions = each_once nat_eq (map (λ v. v.serial) versions)

-- the version has the scope and the code of that serial number
abbrev pub shares_code : Option ℕ → Version → Bool
shares_code None v = false
shares_code (Some serial) v = nat_eq (scope_part v.serial) (scope_part serial) && nat_eq (code_of v.serial) (code_of serial)

-- each of the versions has the scope and the code of the last
abbrev pub share_code : List Version → Bool
share_code versions = list_all (shares_code (last_serial versions)) versions

-- it has 1 to 16 versions
abbrev pub has_versions : Warning → Bool
has_versions w = are_few w.versions

-- the serial numbers of its versions stand each once
abbrev pub has_serials : Warning → Bool
has_serials w = stand_once w.versions

-- all of its versions have the scope and the code of its current version
abbrev pub has_one_code : Warning → Bool
has_one_code w = share_code w.versions

-- the version has that kind
abbrev pub has_kind : Kind → Version → Bool
has_kind k v = is_same_kind (content_kind v.content) k

-- each of the versions has the kind of the first
abbrev pub share_kind : List Version → Bool
share_kind versions = list_all (has_kind (first_kind versions)) versions

-- all of its versions have one kind
abbrev pub has_one_kind : Warning → Bool
has_one_kind w = share_kind w.versions

-- the message identifier and the code of a warning
abbrev pub key_of : Warning → ℕ × Option ℕ
key_of w = (w.message_id, code_in w)

-- both are there and are one code
abbrev pub is_same_code : Option ℕ → Option ℕ → Bool
is_same_code (Some c) (Some d) = nat_eq c d
is_same_code c d = false

-- the message identifiers are one, and the codes
abbrev pub is_same_key : ℕ × Option ℕ → ℕ × Option ℕ → Bool
is_same_key j k = nat_eq j.0 k.0 && is_same_code j.1 k.1

-- no two warnings have the same message identifier and code
abbrev pub have_own_codes : List Warning → Bool
have_own_codes ws = each_once is_same_key (map key_of ws)

-- what a book promises
pub record IsSound (st : State) : Type 0 where
  -- each number is greater than those before it
  pub ordered : is_ascending number_lt st.warnings ≡ true
  pub given : list_all (was_issued st.issued) st.warnings ≡ true
  pub few : length st.warnings ≤ 256
  pub areas : list_all has_areas st.warnings ≡ true
  pub contents : list_all has_contents st.warnings ≡ true
  pub versions : list_all has_versions st.warnings ≡ true
  pub serials : list_all has_serials st.warnings ≡ true
  pub codes : list_all has_one_code st.warnings ≡ true
  pub kinds : list_all has_one_kind st.warnings ≡ true
  pub own_codes : have_own_codes st.warnings ≡ true
