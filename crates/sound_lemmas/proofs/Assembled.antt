-- The program that is put together: its members are the rows of the table with their bodies.
use Rattle.std.proofs.Common.{◌≡◌, ◌∙◌, ℕ, zero, suc, ◌<◌, Bool, List, [], ◌∷◌, length, Some, refl, ap, sym, arith}
use Rattle.std.proofs.lemmas.List.{length-map}
use Rattle.std.proofs.lemmas.Option.{slice_get_within}
use Rattle.std.specs.Prelude.{slice_get}
use Rattle.decl_headers.specs.declared.header.Header.{Header}
use Rattle.decl_headers.specs.Headers.{parents_of, class_count}
use Rattle.decl_headers.specs.Numbers.{as_number}
use Rattle.syntax_tree.specs.declared.class.Program.{Program}
use Rattle.lang_typed.specs.Plain.{PlainProgram, PlainMember}
use Rattle.lang_typed.specs.Scope.{member_at}
use Rattle.decl_table.specs.declared.rows.MethodRow.{MethodRow}
use Rattle.decl_table.specs.declared.table.Table.{Table}
use Rattle.decl_table.specs.Table.{headers_of, methods_of}
use Rattle.body_assembly.specs.Assembled.{PlainBody, member_of, members_of, program_of}
use Rattle.decl_laws.proofs.Facts.{Facts, facts_of}
use Rattle.decl_laws.proofs.Granted.{granted}
use Rattle.sound_lemmas.proofs.BodyRules.{checks_in}
use Rattle.sound_lemmas.specs.Accepted.{IsAccepted}
use Rattle.sound_lemmas.proofs.Lists.{some_same, there}
use Rattle.sound_lemmas.proofs.Counting.{bodies_made}
use Rattle.sound_lemmas.proofs.Signatures.{rows_many}

member_there : (rows : List MethodRow) (bodies : List PlainBody) (n : ℕ) (row : MethodRow) (body : PlainBody) → slice_get rows n ≡ Some row → slice_get bodies n ≡ Some body → slice_get (members_of rows bodies) n ≡ Some (member_of row body)
member_there [] bodies n row body e d = cc
member_there (r ∷ rows) [] n row body e d = cc
member_there (r ∷ rows) (b ∷ bodies) zero row body e d = ap (λ z. Some (member_of z b)) (some_same e) ∙ ap (λ z. Some (member_of row z)) (some_same d)
member_there (r ∷ rows) (b ∷ bodies) (suc n) row body e d = member_there rows bodies n row body e d

-- the row and the body of a member
pub record Member (rows : List MethodRow) (bodies : List PlainBody) (n : ℕ) (m : PlainMember) : Type 0 where
  pub row : MethodRow
  pub body : PlainBody
  pub row_there : slice_get rows n ≡ Some row
  pub body_there : slice_get bodies n ≡ Some body
  pub is : member_of row body ≡ m

member_is : (rows : List MethodRow) (bodies : List PlainBody) (n : ℕ) (m : PlainMember) → slice_get (members_of rows bodies) n ≡ Some m → Member rows bodies n m
member_is [] bodies n m e = cc
member_is (r ∷ rows) [] n m e = cc
member_is (r ∷ rows) (b ∷ bodies) zero m e = record { row = r; body = b; row_there = refl; body_there = refl; is = some_same e }
member_is (r ∷ rows) (b ∷ bodies) (suc n) m e =
    let w = member_is rows bodies n m e in
    record { row = w.row; body = w.body; row_there = w.row_there; body_there = w.body_there; is = w.is }

module _ (program : Program) (table : Table) (bodies : List PlainBody) (accepted : IsAccepted program table bodies) (names : List (List ℕ)) (uses_nd : Bool)
  where
    abbrev P : PlainProgram
    P = program_of table names uses_nd bodies

    pub facts : Facts table
    facts = facts_of program table accepted.rows

    as_many : length bodies ≡ length (methods_of table)
    as_many = bodies_made (checks_in program table accepted.checked) ∙ sym (rows_many program table (granted accepted.rows).read)

    classes_many : length (parents_of (headers_of table)) ≡ class_count (headers_of table)
    classes_many = length-map (headers_of table).rows (λ (row : Header). row.parent)

    pub number_is : (c : ℕ) → c < class_count (headers_of table) → as_number c ≡ c
    number_is c l = let few = facts.forest.counted in omega (arith, few, classes_many, l)

    -- each method has a member
    pub has_member : (n : ℕ) (row : MethodRow) → slice_get (methods_of table) n ≡ Some row → (body : PlainBody) × (slice_get bodies n ≡ Some body) × (member_at P n ≡ Some (member_of row body))
    has_member n row e =
        let l = slice_get_within (methods_of table) n row e in
        let w = there bodies n (omega (arith, l, as_many)) in
        (w.0, w.1, member_there (methods_of table) bodies n row w.0 e w.1)

    pub is_member : (n : ℕ) (m : PlainMember) → member_at P n ≡ Some m → Member (methods_of table) bodies n m
    is_member n m e = member_is (methods_of table) bodies n m e
