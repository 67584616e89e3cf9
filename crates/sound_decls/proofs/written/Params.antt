-- The region parameters of a class and of a member after them are the paths that the checker puts in.
use Rattle.std.proofs.Common.{◌≡◌, ◌∙◌, ℕ, zero, suc, ◌+◌, ◌≤◌, List, [], ◌∷◌, ◌++◌, length, Some, refl, ap, sym, sum_by, arith}
use Rattle.std.proofs.lemmas.List.{length-map}
use Rattle.std.proofs.lemmas.List.Sums.{get_or-le-sum_by}
use Rattle.std.proofs.lemmas.Option.{slice_get_within, get_or_from_slice_get}
use Rattle.std.specs.Prelude.{slice_get}
use Rattle.decl_headers.specs.declared.header.Header.{Header}
use Rattle.decl_headers.specs.Gathered.{param_row}
use Rattle.decl_headers.specs.Headers.{header_of}
use Rattle.decl_headers.specs.Numbers.{as_number}
use Rattle.syntax_tree.specs.declared.class.Member.TheVariants as member
use Rattle.syntax_tree.specs.declared.class.Program.{Program}
use Rattle.syntax_tree.specs.Size.{class_size, member_size}
use Rattle.lang_typed.specs.Table.{params_from}
use Rattle.decl_table.specs.declared.rows.MethodRow.{MethodRow}
use Rattle.decl_table.specs.declared.table.Table.{Table}
use Rattle.decl_classes.specs.Overriding.{param_path}
use Rattle.decl_classes.specs.Overriding.{params_from as checked_from}
use Rattle.decl_table.specs.Plain.{PlainMethod}
use Rattle.decl_table.specs.Table.{headers_of, methods_of}
use Rattle.body_assembly.specs.Assembled.{PlainBody}
use Rattle.sound_lemmas.specs.Accepted.{IsAccepted}
use Rattle.sound_lemmas.proofs.Lists.{some_same}
use Rattle.syntax_grammar.specs.Written.{IsWritten}
use Rattle.sound_decls.proofs.table.ClassesAndMethods.{comes, of_header}

-- one more at the end
params_last : (p n : ℕ) → params_from p (suc n) ≡ params_from p n ++ param_path (p + n) ∷ []
params_last p zero = let here : p ≡ p + 0 = omega arith in ap (λ k. param_path k ∷ []) here
params_last p (suc n) =
    let next : suc p + n ≡ p + suc n = omega arith in
    ap (λ ps. param_path p ∷ ps) (params_last (suc p) n) ∙ ap (λ k. param_path p ∷ (params_from (suc p) n ++ param_path k ∷ [])) next

pub params_same : (p n : ℕ) → p + n ≤ 4294967295 → checked_from p n ≡ params_from p n
params_same p zero few = refl
params_same p (suc n) few =
    let number : as_number (p + n) ≡ p + n = omega (arith, few) in
    ap (λ ps. ps ++ param_path (as_number (p + n)) ∷ []) (params_same p n (omega (arith, few)))
    ∙ ap (λ k. params_from p n ++ param_path k ∷ []) number ∙ sym (params_last p n)

-- an element adds no more than all
part_le : {X : Type 0} (f : X → ℕ) (xs : List X) (i : ℕ) (x : X) → slice_get xs i ≡ Some x → f x ≤ sum_by f xs
part_le f xs i x e =
    let l = get_or-le-sum_by f xs i x (slice_get_within xs i x e) in
    let is = ap f (get_or_from_slice_get xs i x x e) in
    omega (arith, l, is)

module _ (program : Program) (table : Table) (bodies : List PlainBody) (written : IsWritten program) (accepted : IsAccepted program table bodies)
  where
    -- a class and a member of it have fewer region parameters than numbers
    pub params_few : (i : ℕ) (row : MethodRow) (header : Header) → slice_get (methods_of table) i ≡ Some row → header_of (headers_of table) row.owner ≡ Some header →
        length header.params + length row.regions ≤ 4294967295
    params_few i row header e is =
        let w = comes program table bodies written accepted i row e in
        let h = of_header program table bodies written accepted row.owner header is in
        let place = slice_get_within program.classes w.place w.class w.stands in
        let counted = accepted.rows.counted.0 in
        let owner = w.owner in
        let here : row.owner ≡ w.place = omega (arith, place, counted, owner) in
        let same = some_same (sym h.stands ∙ ap (slice_get program.classes) here ∙ w.stands) in
        let of_class : length header.params ≡ length w.class.params.list = ap length h.params ∙ length-map h.class.params.list param_row ∙ ap (λ (c : _). length c.params.list) same in
        let of_method : length row.regions ≡ length w.method.params.list = ap (λ (r : PlainMethod). length r.regions) w.is ∙ length-map w.method.params.list param_row in
        let all = part_le class_size program.classes w.place w.class w.stands in
        let one = part_le member_size w.class.members w.spot (member.Method w.method) w.declared in
        let small = written.small in
        omega (arith, of_class, of_method, all, one, small)
