-- The names of the typed program that is made of an accepted one are those of its tree.
use Rattle.std.proofs.Common.{◌≡◌, ◌∙◌, ℕ, suc, ◌+◌, ◌<◌, List, [], ◌∷◌, map, length, Option, Some, refl, sym, ap, arith}
use Rattle.std.proofs.lemmas.Option.{slice_get_within}
use Rattle.std.specs.List.{range_with_len}
use Rattle.std.specs.Option.{option_map_or}
use Rattle.std.specs.Prelude.{slice_get}
use Rattle.syntax_tree.specs.declared.class.Class.{Class}
use Rattle.syntax_tree.specs.declared.class.Program.{Program}
use Rattle.syntax_tree.specs.declared.region.ParamTree.{ParamTree}
use Rattle.decl_headers.specs.declared.header.Header.{Header}
use Rattle.decl_headers.specs.declared.header.ParamRow.{ParamRow}
use Rattle.decl_headers.specs.Gathered.{param_row}
use Rattle.decl_headers.specs.Headers.{header_of}
use Rattle.decl_headers.specs.Numbers.{as_number}
use Rattle.decl_table.specs.declared.rows.MethodRow.{MethodRow}
use Rattle.decl_table.specs.declared.table.Table.{Table}
use Rattle.decl_table.specs.Plain.{PlainMethod}
use Rattle.decl_table.specs.Table.{headers_of, methods_of}
use Rattle.syntax_tree.specs.Nd.{program_uses_nd}
use Rattle.body_assembly.specs.Assembled.{PlainBody}
use Rattle.body_assembly.specs.Named.{text_of, params_named, header_named, class_named, member_named, members_named, region_named}
use Rattle.body_assembly.specs.Named.{names_in as names_made}
use Rattle.lang_typed.specs.Names.{Named, NamedRegion}
use Rattle.syntax_grammar.specs.Written.{IsWritten}
use Rattle.syntax_means.specs.Declares.{OwnMethod, OwnRegion, all_methods, all_regions, spelled, params_spelled, names_in}
use Rattle.sound_lemmas.specs.Accepted.{IsAccepted}
use Rattle.sound_lemmas.proofs.Assembled.{has_member}
use Rattle.sound_lemmas.proofs.Lists.{some_same}
use Rattle.sound_means.proofs.Finding.{row_of, as_many, header_there, region_list}
use Rattle.sound_means.proofs.Methods.{own_row, rows_many}

-- lists that are made alike

made_alike : {A B : Type 0} (f : ℕ → B) (g : A → B) (at : ℕ) (xs : List A) → ((i : ℕ) (x : A) → slice_get xs i ≡ Some x → f (at + i) ≡ g x) → map f (range_with_len at (length xs)) ≡ map g xs
made_alike f g at [] same = refl
made_alike f g at (x ∷ xs) same =
    let here : at ≡ at + 0 = omega arith in
    ap (λ y. y ∷ map f (range_with_len (at + 1) (length xs))) (ap f here ∙ same 0 x refl)
    ∙ ap (λ ys. g x ∷ ys) (made_alike f g (at + 1) xs (λ i y e. let next : at + 1 + i ≡ at + suc i = omega arith in ap f next ∙ same (suc i) y e))

both_alike : {A B C : Type 0} (f : A → C) (g : B → C) (xs : List A) (ys : List B) → length xs ≡ length ys → ((i : ℕ) (x : A) (y : B) → slice_get xs i ≡ Some x → slice_get ys i ≡ Some y → f x ≡ g y) → map f xs ≡ map g ys
both_alike f g [] [] long same = refl
both_alike f g [] (y ∷ ys) long same = absurd (omega (arith, long))
both_alike f g (x ∷ xs) [] long same = absurd (omega (arith, long))
both_alike f g (x ∷ xs) (y ∷ ys) long same =
    ap (λ z. z ∷ map f xs) (same 0 x y refl refl) ∙ ap (λ zs. g y ∷ zs) (both_alike f g xs ys (omega (arith, long)) (λ i a b h k. same (suc i) a b h k))

twice_mapped : {A B C : Type 0} (f : B → C) (g : A → B) (xs : List A) → map f (map g xs) ≡ map (λ x. f (g x)) xs
twice_mapped f g [] = refl
twice_mapped f g (x ∷ xs) = ap (λ z. f (g x) ∷ z) (twice_mapped f g xs)

-- each method has a body
named_all : (names : List (List ℕ)) (rows : List MethodRow) (bodies : List PlainBody) → ((i : ℕ) (row : MethodRow) → slice_get rows i ≡ Some row → (body : PlainBody) × (slice_get bodies i ≡ Some body)) →
    members_named names rows bodies ≡ map (member_named names) rows
named_all names [] bodies has = refl
named_all names (row ∷ rows) [] has = let none = (has 0 row refl).1 in absurd (cc (none))
named_all names (row ∷ rows) (body ∷ bodies) has = ap (λ z. member_named names row ∷ z) (named_all names rows bodies (λ i one e. has (suc i) one e))

module _ (program : Program) (table : Table) (bodies : List PlainBody) (written : IsWritten program) (accepted : IsAccepted program table bodies)
  where
    params_alike : (params : List ParamTree) → params_named program.names (map param_row params) ≡ map (λ (param : ParamTree). spelled program param.name) params
    params_alike params = twice_mapped (λ (param : ParamRow). text_of program.names param.name) param_row params

    class_alike : (i : ℕ) (class : Class) → slice_get program.classes i ≡ Some class → class_named table program.names (as_number (0 + i)) ≡ record { name = spelled program class.name; params = params_spelled program class.params }
    class_alike i class e =
        let l = slice_get_within program.classes i class e in
        let few : length program.classes < 4294967295 = accepted.rows.counted.0 in
        let number : as_number (0 + i) ≡ i = omega (arith, l, few) in
        let none : Named = record { name = []; params = [] } in
        ap (λ k. option_map_or (header_named program.names) (header_of (headers_of table) k) none) number
        ∙ ap (λ (o : Option Header). option_map_or (header_named program.names) o none) (header_there program table bodies written accepted i class e)
        ∙ ap (λ ps. record { name = spelled program class.name; params = ps }) (params_alike class.params.list)

    member_alike : (i : ℕ) (row : MethodRow) (own : OwnMethod) → slice_get (methods_of table) i ≡ Some row → slice_get (all_methods program) i ≡ Some own →
        member_named program.names row ≡ record { name = spelled program own.method.name; params = params_spelled program own.method.params }
    member_alike i row own e d =
        let w = own_row program table accepted.rows i own d in
        let same : w.0 ≡ row = some_same (sym w.1.row_there ∙ e) in
        ap (member_named program.names) (sym same)
        ∙ ap (λ (r : PlainMethod). record { name = text_of program.names r.name; params = params_named program.names r.regions }) w.1.is
        ∙ ap (λ ps. record { name = spelled program own.method.name; params = ps }) (params_alike own.method.params.list)

    pub names_alike : names_made table program.names bodies ≡ names_in program
    names_alike =
        ap (λ cs. record { classes = cs; members = members_named program.names (methods_of table) bodies; regions = map (region_named program.names) (headers_of table).regions }) classes
        ∙ ap (λ ms. record { classes = said_classes; members = ms; regions = map (region_named program.names) (headers_of table).regions }) members
        ∙ ap (λ rs. record { classes = said_classes; members = said_members; regions = rs }) regions
      where
        said_classes : List Named
        said_classes = map (λ (class : Class). record { name = spelled program class.name; params = params_spelled program class.params }) program.classes

        said_members : List Named
        said_members = map (λ (own : OwnMethod). record { name = spelled program own.method.name; params = params_spelled program own.method.params }) (all_methods program)

        said_regions : List NamedRegion
        said_regions = map (λ (region : OwnRegion). record { class = region.class; name = spelled program region.name }) (all_regions program)

        classes : map (λ at. class_named table program.names (as_number at)) (range_with_len 0 (length (headers_of table).rows)) ≡ said_classes
        classes =
            ap (λ n. map (λ at. class_named table program.names (as_number at)) (range_with_len 0 n)) (as_many program table bodies written accepted)
            ∙ made_alike (λ at. class_named table program.names (as_number at)) (λ (class : Class). record { name = spelled program class.name; params = params_spelled program class.params }) 0 program.classes class_alike

        members : members_named program.names (methods_of table) bodies ≡ said_members
        members =
            named_all program.names (methods_of table) bodies (λ i row e. let w = has_member program table bodies accepted program.names (program_uses_nd program) i row e in (w.0, w.1))
            ∙ both_alike (member_named program.names) (λ (own : OwnMethod). record { name = spelled program own.method.name; params = params_spelled program own.method.params }) (methods_of table) (all_methods program)
            (rows_many program table accepted.rows) member_alike

        regions : map (region_named program.names) (headers_of table).regions ≡ said_regions
        regions = ap (map (region_named program.names)) (region_list program table bodies written accepted) ∙ twice_mapped (region_named program.names) row_of (all_regions program)
