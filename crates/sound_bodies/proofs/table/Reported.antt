-- What the class table of an accepted text says of a name is so in its typed program.
use Rattle.std.proofs.Common.{◌≡◌, ◌∙◌, ◌⊎◌, ℕ, suc, ◌+◌, ◌<◌, ◌==◌, ◌&&◌, Bool, true, false, not, cond, List, [], ◌∷◌, map, length, inl, inr, Option, None, Some, option_map, refl, ap, arith}
use Rattle.std.proofs.lemmas.List.{length-map}
use Rattle.std.specs.List.{position_from}
use Rattle.std.specs.Option.{option_map_or}
use Rattle.std.specs.Prelude.{slice_get}
use Rattle.lang_base.specs.declared.region.Rpl.{Rpl}
use Rattle.lang_base.specs.declared.ty.Ty.{Ty}
use Rattle.lang_base.specs.Types.{PlainType, void, plain_type, mentions_param}
use Rattle.decl_headers.specs.declared.header.Header.{Header}
use Rattle.decl_headers.specs.declared.header.RegionRow.{RegionRow}
use Rattle.decl_headers.specs.Headers.{class_of, region_of, header_of, regions_of, own_region, nearest, upwards, class_count}
use Rattle.decl_headers.specs.Numbers.{as_number}
use Rattle.syntax_tree.specs.declared.class.Program.{Program}
use Rattle.syntax_tree.specs.Nd.{program_uses_nd}
use Rattle.decl_table.specs.declared.rows.FieldRow.{FieldRow}
use Rattle.decl_table.specs.declared.rows.MethodRow.{MethodRow}
use Rattle.decl_table.specs.declared.table.Table.{Table}
use Rattle.decl_table.specs.Places.{constructor_number}
use Rattle.decl_table.specs.Plain.{plain_method}
use Rattle.decl_table.specs.Table.{headers_of, given_of, methods_of, numbered, field_of, own_field, method_of, own_method, row_of, constructor_of, args_at}
use Rattle.lang_typed.specs.Scope.{row_at}
use Rattle.body_assembly.specs.Assembled.{PlainBody, member_of}
use Rattle.body_assembly.specs.Assembled.{class_of as typed_class}
use Rattle.decl_laws.proofs.Facts.{Facts, facts_of, nearest_in}
use Rattle.decl_laws.proofs.Stand.{methods_stand}
use Rattle.decl_laws.proofs.Granted.{granted}
use Rattle.sound_lemmas.specs.Accepted.{IsAccepted}
use Rattle.sound_lemmas.proofs.Assembled.{has_member}
use Rattle.sound_lemmas.proofs.Lists.{some_same, and_then_there, map_there}
use Rattle.syntax_grammar.specs.Written.{IsWritten}
use Rattle.sound_bodies.specs.Seen.{AllStand, HasNumbers, AllHaveNumbers, FieldSeen, MemberSeen, MethodSeen, ClassSeen, Tells}
use Rattle.sound_bodies.specs.Whole.{never_forks}
use Rattle.sound_bodies.proofs.reach.NdFreeParts.{row_there, stays_nd_free}
use Rattle.sound_bodies.proofs.scope.Closed.{last_within}
use Rattle.sound_bodies.proofs.table.Declarations.{TypesIn, MethodSaid, row_said}
use Rattle.sound_bodies.proofs.scope.InParams.{TypeIn, type_stands, type_few}
use Rattle.sound_bodies.proofs.table.Lineage.{P, number, class_there, above_of}
use Rattle.sound_bodies.proofs.table.Slotted.{at_within, field_reported}

-- types of formals and results that are over region parameters
all_stand : (n : ℕ) (ts : List Ty) → TypesIn n (map plain_type ts) → AllStand ts
all_stand n [] h = tt
all_stand n (t ∷ ts) h = (type_stands n (plain_type t) h.0, all_stand n ts h.1)

has_numbers : (n : ℕ) (t : PlainType) → TypeIn n t → HasNumbers t
has_numbers n t h p k = (type_few n p t h k).1

all_have_numbers : (n : ℕ) (ts : List Ty) → TypesIn n (map plain_type ts) → AllHaveNumbers ts
all_have_numbers n [] h = tt
all_have_numbers n (t ∷ ts) h = (has_numbers n (plain_type t) h.0, all_have_numbers n ts h.1)

result_numbers : (n : ℕ) (t : PlainType) → (t ≡ void) ⊎ TypeIn n t → HasNumbers t
result_numbers n t (inl none) = λ p k. (let same = ap (mentions_param p) none in cc)
result_numbers n t (inr h) = has_numbers n t h

position_within : {X : Type 0} (test : X → Bool) (at : ℕ) (xs : List X) (p : ℕ) → position_from test at xs ≡ Some p → p < at + length xs
position_within test at [] p e = cc
position_within test at (x ∷ xs) p e = by (test x) e (position_within test (at + 1) xs p)
  where
    by : (b : Bool) → cond b (Some at) (position_from test (at + 1) xs) ≡ Some p → (position_from test (at + 1) xs ≡ Some p → p < at + 1 + length xs) → p < at + suc (length xs)
    by true h later = let same = some_same h in omega (arith, same)
    by false h later = let l = later h in omega (arith, l)

module _ (program : Program) (table : Table) (bodies : List PlainBody) (written : IsWritten program) (accepted : IsAccepted program table bodies)
  where
    facts : Facts table
    facts = facts_of program table accepted.rows

    said : (n : ℕ) (row : MethodRow) → slice_get (methods_of table) n ≡ Some row → MethodSaid (plain_method row)
    said n row e = row_said program table (granted accepted.rows).read n row e

    member_seen : (n : ℕ) (row : MethodRow) → slice_get (methods_of table) n ≡ Some row → MemberSeen (P program table bodies accepted) row
    member_seen n row e =
        let m = has_member program table bodies accepted program.names (program_uses_nd program) n row e in
        let s = said n row e in
        record {
          member = member_of row m.0;
          is = ap (λ k. slice_get (P program table bodies accepted).members k) (facts.numbered n row e) ∙ m.2;
          class = refl;
          params = refl;
          given = refl;
          formals = refl;
          result = refl;
          summary = refl;
          stand = all_stand s.count row.params s.params;
        }

    fields_reported : (class name : ℕ) (args owned : List Rpl) (row : FieldRow) → field_of table class name ≡ Some row → args_at table class args row.owner ≡ Some owned → FieldSeen (P program table bodies accepted) class args owned row
    fields_reported class name args owned row e h =
        let w = and_then_there (λ place. slice_get table.fields place) (nearest (λ above. own_field table above name) (upwards (headers_of table) class)) row e in
        field_reported program table bodies accepted written.small class args owned w.0 row w.2 h

    methods_reported : (class name : ℕ) (args owned : List Rpl) (row : MethodRow) → method_of table class name ≡ Some row → args_at table class args row.owner ≡ Some owned →
        MethodSeen (P program table bodies accepted) table (never_forks table) class args owned row
    methods_reported class name args owned row e h = record {
      seen = member_seen w.0 row w.2;
      in_row = in_row;
      above = above_of program table bodies accepted (class_count (headers_of table) + 1) class args owned row.owner h;
      formals_numbered = all_have_numbers s.count row.params s.params;
      result_numbered = result_numbers s.count (plain_type row.result) s.result;
      nd_free = λ nd_free d m below there. stays_nd_free program table bodies accepted d class (row_of table row.id) row.id m below in_row nd_free there;
    }
      where
        w : (id : ℕ) × (nearest (λ at. own_method table at name) (upwards (headers_of table) class) ≡ Some id) × (numbered table id ≡ Some row)
        w = and_then_there (numbered table) (nearest (λ at. own_method table at name) (upwards (headers_of table) class)) row e

        s : MethodSaid (plain_method row)
        s = said w.0 row w.2

        owner : row.owner < class_count (headers_of table)
        owner =
            let l = facts.owned w.0 row w.2 in
            let many = length-map (headers_of table).rows (λ (header : Header). header.parent) in
            omega (arith, l, many)

        in_row : row_at (P program table bodies accepted) class (row_of table row.id) ≡ Some row.id
        in_row =
            row_there program table bodies accepted class (row_of table row.id) row.id
            (at_within program table bodies accepted (class_count (headers_of table) + 1) class args owned row.owner h owner)
            (methods_stand program table accepted.rows class name row e)

    classes_reported : (name at : ℕ) → class_of (headers_of table) name ≡ Some at → ClassSeen (P program table bodies accepted) table (never_forks table) at
    classes_reported name at e = record {
      class = typed_class table at;
      is = class_there program table bodies accepted at within;
      params = ap (λ k. option_map_or (λ (header : Header). map (λ param. param.atomic) header.params) (header_of (headers_of table) k) []) same ∙ params (header_of (headers_of table) at);
      given = ap (given_of table) same;
      constructor = ap (λ k. option_map (λ (row : MethodRow). row.id) (constructor_of table k)) same;
      member = λ row c. (let w = and_then_there (numbered table) (constructor_number (methods_of table) at) row c in member_seen w.0 row w.2);
      nd_free = λ row c nd_free. ap not nd_free;
    }
      where
        within : at < class_count (headers_of table)
        within =
            let w = map_there as_number (position_from (λ (row : Header). row.name == name) 0 (headers_of table).rows) at e in
            let l = position_within (λ (row : Header). row.name == name) 0 (headers_of table).rows w.0 w.1 in
            let is = w.2 in
            omega (arith, l, is)

        same : as_number at ≡ at
        same = number program table bodies accepted at within

        params : (o : Option Header) → option_map_or (λ (header : Header). map (λ param. param.atomic) header.params) o [] ≡ map (λ param. param.atomic) (option_map_or (λ (header : Header). header.params) o [])
        params None = refl
        params (Some header) = refl

    regions_reported : (class name number : ℕ) → region_of (headers_of table) class name ≡ Some number → number < length (P program table bodies accepted).region_names
    regions_reported class name number e =
        let w = nearest_in (λ at. own_region (headers_of table) at name) (upwards (headers_of table) class) number e in
        elim (last_within (λ (row : RegionRow). (row.owner == w.0) && (row.name == name)) 0 (regions_of (headers_of table)) None number w.2) [
          | inl none ↦ absurd (cc (none))
          | inr l ↦
              let many = length-map (regions_of (headers_of table)) (λ (row : RegionRow). row.is_atomic) in
              let below = l.0 in
              omega (arith, below, many)
        ]

    pub table_tells : Tells (P program table bodies accepted) table (never_forks table)
    table_tells = record {
      fields = fields_reported;
      methods = methods_reported;
      classes = classes_reported;
      regions = regions_reported;
      atomic = refl;
    }
