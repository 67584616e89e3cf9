-- What is written of a region path is read as a path that means it.
use Rattle.std.proofs.Common.{◌≡◌, ◌∙◌, ◌≤◌, ℕ, ℤ, List, [], ◌∷◌, ◌++◌, map, slice_get, Some, None, refl, ap, sym, subst}
use Rattle.std.specs.Prelude.{codes, option_map, slice_index_or, pos}
use Rattle.std.specs.List.{AllZip, flat_map}
use Rattle.std.specs.Option.{option_map_or}
use Rattle.std.proofs.lemmas.Option.{get_or_from_slice_get, slice_get-map}
use Rattle.lang_base.specs.Lexical.{IsName}
use Rattle.lang_base.specs.declared.elems.Elem.{Elem}
use Rattle.lang_base.specs.declared.elems.Elem.TheVariants.{Name, At, Any, Star, Local}
use Rattle.lang_base.specs.declared.elems.Index.TheVariants.{Literal, Variable, Renamed, Own}
use Rattle.lang_base.specs.declared.place.Place.{Place}
use Rattle.lang_base.specs.declared.region.Head.{Head}
use Rattle.lang_base.specs.declared.region.Head.TheVariants.{Root, Param}
use Rattle.lang_base.specs.declared.region.Rpl.{Rpl}
use Rattle.syntax_tokens.specs.declared.token.Keyword.TheVariants as keyword
use Rattle.syntax_tokens.specs.declared.terminal.Placed.{Placed}
use Rattle.syntax_tokens.specs.declared.terminal.Terminal.{Terminal}
use Rattle.syntax_tree.specs.declared.class.Class.{Class}
use Rattle.syntax_tree.specs.declared.class.Program.{Program}
use Rattle.syntax_tree.specs.declared.region.ElemTree.{ElemTree}
use Rattle.syntax_tree.specs.declared.region.ElemTree.TheVariants as elem
use Rattle.syntax_tree.specs.declared.region.RplHead.{RplHead}
use Rattle.syntax_tree.specs.declared.region.RplHead.TheVariants as head
use Rattle.syntax_tree.specs.declared.region.RplTree.{RplTree}
use Rattle.syntax_grammar.specs.Paths.{DerivesElem, DerivesHead, DerivesNext, DerivesRName, DerivesRpl, DerivesWithin, next, path, two_names}
use Rattle.syntax_grammar.specs.Taking.{Many, StandsAt, Takes}
use Rattle.syntax_means.specs.Declares.{MeansIn, OwnRegion, all_regions, names_in, spelled}
use Rattle.syntax_means.specs.Paths.{Around, ElemMeans, HeadMeans, PathMeans, RegionMeans}
use Rattle.body_infer.specs.Lines.{elem_text, head_text, path_text, region_text, within_class}
use Rattle.sound_infer.proofs.reading.Parts.{Anything, EndsWord, Reads, followed, nothing, read_as, spelled_as}
use Rattle.sound_infer.proofs.reading.Words.{Comes, a_close_bracket, a_colon, a_dot, a_keyword, a_name, a_number, a_question, a_star, an_open_bracket, at_close_bracket, at_colon, at_dot}

-- a name of the tree is spelled as names are
pub record IsSpelled (tree : Program) (name : ℕ) : Type 0 where
  pub there : slice_get tree.names name ≡ Some (spelled tree name)
  pub is : IsName (spelled tree name)

-- a region name, its class, and their names
pub record RegionIsSpelled (tree : Program) (region : OwnRegion) : Type 0 where
  pub class : Class
  pub declares : slice_get tree.classes region.class ≡ Some class
  pub of_class : IsSpelled tree class.name
  pub own : IsSpelled tree region.name

-- all names that a summary may hold there, and what its region parameters are called
pub record AllSpelled (A : Around) (params : List (List ℕ)) : Type 0 where
  pub regions : (n : ℕ) (region : OwnRegion) → slice_get (all_regions A.tree) n ≡ Some region → RegionIsSpelled A.tree region
  pub named : (p name : ℕ) → slice_get A.params p ≡ Some name → IsSpelled A.tree name
  pub called : params ≡ map (spelled A.tree) A.params

pub takes : {said : Terminal} {before after : List Placed} {place : Place} → Comes said before after place → Takes said before after place
takes h = record { first = h }

any_ends : (left : List ℕ) → EndsWord left → Anything left
any_ends left ends = tt

pub stands_at : {said : Terminal} {before after : List Placed} {place : Place} → Comes said before after place → StandsAt before place
stands_at {said} {before} {after} {place} h = record { first = λ first more e. (let same : record { terminal = said; place = place } ∷ after ≡ first ∷ more = sym h ∙ e in ap (λ list. place_in list) same) }
  where
    place_in : List Placed → Place
    place_in [] = place
    place_in (first ∷ more) = first.place

module _ (A : Around) where
  -- an element and a path that can be written in a summary
  abbrev pub Speakable : Elem → Type 0
  Speakable (Name n) = (region : OwnRegion) × (slice_get (all_regions A.tree) n ≡ Some region)
  Speakable (At (Literal k)) = (n : ℕ) × (k ≡ pos n) × (n ≤ 2147483647)
  Speakable (At other) = ⊥
  Speakable Any = Unit {0}
  Speakable Star = Unit {0}
  Speakable (Local r n) = ⊥

  abbrev pub AllSpeakable : List Elem → Type 0
  AllSpeakable [] = Unit {0}
  AllSpeakable (x ∷ xs) = Speakable x × AllSpeakable xs

  abbrev pub SpeakableHead : Head → Type 0
  SpeakableHead Root = Unit {0}
  SpeakableHead (Param p) = (name : ℕ) × (slice_get A.params p ≡ Some name)

  abbrev pub SpeakablePath : Rpl → Type 0
  SpeakablePath a = SpeakableHead a.head × AllSpeakable a.elems

  abbrev pub IsPath : Rpl → List Placed → List Placed → RplTree → Type 0
  IsPath a before after tree = DerivesRpl before after tree × PathMeans A [] tree a

module _ (A : Around) (params : List (List ℕ)) (all : AllSpelled A params) where
  abbrev IsElem : Elem → List Placed → List Placed → ElemTree → Type 0
  IsElem x before after tree = DerivesElem before after tree × ElemMeans A [] tree x

  abbrev names : List (List ℕ)
  names = A.tree.names

  region_spelled : (n : ℕ) (region : OwnRegion) → slice_get (all_regions A.tree) n ≡ Some region → (s : RegionIsSpelled A.tree region) →
      spelled A.tree s.class.name ++ codes "." ++ spelled A.tree region.name ≡ region_text (names_in A.tree) n
  region_spelled n region e s =
      ap (λ c. c ++ codes "." ++ spelled A.tree region.name) (sym (ap (λ o. option_map_or (λ k. k.name) o []) (slice_get-map _ A.tree.classes region.class ∙ ap (option_map _) s.declares)))
      ∙ sym (ap (λ o. option_map_or (λ r. within_class (names_in A.tree) r.class r.name) o []) (slice_get-map _ (all_regions A.tree) n ∙ ap (option_map _) e))

  region_reads : (n : ℕ) (region : OwnRegion) → slice_get (all_regions A.tree) n ≡ Some region → Reads names EndsWord (IsElem (Name n)) (elem_text (names_in A.tree) (Name n))
  region_reads n region e =
      let s = all.regions n region e in
      let class = spelled A.tree s.class.name in
      let own = spelled A.tree region.name in
      let dotted = followed names EndsWord Anything (Comes _) (Comes _) class (codes ".") (a_name names s.class.name class s.of_class.there s.of_class.is) (a_dot names) (λ left ends. at_dot) in
      let both = followed names Anything EndsWord _ (Comes _) (class ++ codes ".") own dotted (a_name names region.name own s.own.there s.own.is) (λ left ends. tt) in
      spelled_as (region_spelled n region e s)
      (read_as names EndsWord EndsWord _ (IsElem (Name n)) (class ++ codes "." ++ own) both (λ left ends. ends)
      (λ t. elem.Name (record { first = record { place = t.0.0; name = s.class.name }; second = Some (record { place = t.1; name = region.name }) }))
      (λ before after t h. (
        DerivesElem.name (two_names (takes h.1.1) (takes h.1.2) (takes h.2)),
        ElemMeans.a_region (RegionMeans.in_other refl (s.class, s.declares, refl) (MeansIn.its_own (region.is_atomic, e))),
      )))

  -- `[` and what is within and `]`
  bracketed : {T : Type 0} (Is : List Placed → List Placed → T → Type 0) (x : Elem) (text : List ℕ) → Reads names EndsWord Is text → (f : T → ElemTree) →
      ((before after : List Placed) (tree : T) → Is before after tree → DerivesWithin before after (f tree)) → ((tree : T) → ElemMeans A [] (f tree) x) →
      Reads names EndsWord (IsElem x) (codes "[" ++ text ++ codes "]")
  bracketed {T} Is x text within f derives means =
      let opened = followed names Anything EndsWord (Comes _) Is (codes "[") text (an_open_bracket names) within (λ left ends. tt) in
      let closed = followed names EndsWord Anything _ (Comes _) (codes "[" ++ text) (codes "]") opened (a_close_bracket names) (λ left ends. at_close_bracket) in
      read_as names Anything EndsWord _ (IsElem x) (codes "[" ++ text ++ codes "]") closed any_ends (λ t. f t.0.1)
      (λ before after t h. (DerivesElem.within (takes h.1.1) (derives _ _ t.0.1 h.1.2) (takes h.2), means t.0.1))

  literal_reads : (k : ℤ) (n : ℕ) → k ≡ pos n → n ≤ 2147483647 → Reads names EndsWord (IsElem (At (Literal k))) (elem_text (names_in A.tree) (At (Literal k)))
  literal_reads k n e small =
      subst (λ i. Reads names EndsWord (IsElem (At (Literal i))) (elem_text (names_in A.tree) (At (Literal i)))) (sym e)
      (bracketed (Comes _) (At (Literal (pos n))) _ (a_number names n small) (λ t. elem.Lit (pos n)) (λ before after t h. DerivesWithin.number (takes h)) (λ t. ElemMeans.a_literal))

  elem_reads : (x : Elem) → Speakable A x → Reads names EndsWord (IsElem x) (elem_text (names_in A.tree) x)
  elem_reads (Name n) (region, e) = region_reads n region e
  elem_reads (At (Literal k)) (n, e, small) = literal_reads k n e small
  elem_reads (At (Variable x)) never = absurd never
  elem_reads (At (Renamed x)) never = absurd never
  elem_reads (At (Own d)) never = absurd never
  elem_reads Any it =
      bracketed (Comes _) Any (codes "?") (read_as names Anything EndsWord (Comes _) (Comes _) (codes "?") (a_question names) any_ends (λ t. t) (λ before after t h. h))
      (λ t. elem.Any) (λ before after t h. DerivesWithin.any (takes h)) (λ t. ElemMeans.any_index)
  elem_reads Star it =
      read_as names Anything EndsWord (Comes _) (IsElem Star) (codes "*") (a_star names) any_ends (λ t. elem.Star) (λ before after t h. (DerivesElem.star (takes h), ElemMeans.a_star))
  elem_reads (Local r n) never = absurd never

  abbrev after_colon : Elem → List ℕ
  after_colon x = codes ":" ++ elem_text (names_in A.tree) x

  abbrev AreElems : List Elem → List Placed → List Placed → List ElemTree → Type 0
  AreElems xs before after trees = Many DerivesNext before after trees × AllZip (ElemMeans A []) trees xs

  ends_before : (xs : List Elem) (left : List ℕ) → EndsWord left → EndsWord (flat_map after_colon xs ++ left)
  ends_before [] left ends = ends
  ends_before (x ∷ xs) left ends = at_colon

  elems_read : (xs : List Elem) → AllSpeakable A xs → Reads names EndsWord (AreElems xs) (flat_map after_colon xs)
  elems_read [] it = nothing names EndsWord (AreElems []) [] (λ here. (Many.none, tt))
  elems_read (x ∷ xs) (first, more) =
      let one = followed names Anything EndsWord (Comes _) (IsElem x) (codes ":") (elem_text (names_in A.tree) x) (a_colon names) (elem_reads x first) (λ left ends. tt) in
      let both = followed names EndsWord EndsWord _ (AreElems xs) (after_colon x) (flat_map after_colon xs) one (elems_read xs more) (ends_before xs) in
      read_as names EndsWord EndsWord _ (AreElems (x ∷ xs)) (after_colon x ++ flat_map after_colon xs) both (λ left ends. ends) (λ t. t.0.1 ∷ t.1)
      (λ before after t h. (Many.some (next (takes h.1.1) h.1.2.0) h.2.0, (h.1.2.1, h.2.1)))

  abbrev IsHead : Head → List Placed → List Placed → RplHead × Place → Type 0
  IsHead h before after t = DerivesHead before after t.0 × StandsAt before t.1 × HeadMeans A t.0 (record { head = h; elems = [] })

  head_reads : (h : Head) → SpeakableHead A h → Reads names EndsWord (IsHead h) (head_text params h)
  head_reads Root it =
      read_as names EndsWord EndsWord (Comes _) (IsHead Root) (codes "Root") (a_keyword names keyword.Root) (λ left ends. ends) (λ t. (head.Root, t))
      (λ before after t h. (DerivesHead.root (takes h), stands_at h, HeadMeans.at_root))
  head_reads (Param p) (name, e) =
      let s = all.named p name e in
      let text : spelled A.tree name ≡ slice_index_or params p (codes "?") =
      sym (get_or_from_slice_get params p (spelled A.tree name) (codes "?") (ap (λ ps. slice_get ps p) all.called ∙ slice_get-map (spelled A.tree) A.params p ∙ ap (option_map (spelled A.tree)) e)) in
      spelled_as text
      (read_as names EndsWord EndsWord (Comes _) (IsHead (Param p)) (spelled A.tree name) (a_name names name (spelled A.tree name) s.there s.is) (λ left ends. ends)
      (λ t. (head.Name (record { first = record { place = t; name = name }; second = None }), t))
      (λ before after t h. (DerivesHead.name (DerivesRName.one_name (takes h)), stands_at h, HeadMeans.at_param (refl, e))))

  pub path_reads : (a : Rpl) → SpeakablePath A a → Reads names EndsWord (IsPath A a) (path_text (names_in A.tree) params a)
  path_reads a (first, more) =
      let both = followed names EndsWord EndsWord (IsHead a.head) (AreElems a.elems) (head_text params a.head) (flat_map after_colon a.elems) (head_reads a.head first) (elems_read a.elems more) (ends_before a.elems) in
      read_as names EndsWord EndsWord _ (IsPath A a) (path_text (names_in A.tree) params a) both (λ left ends. ends)
      (λ t. record { place = t.0.1; head = t.0.0; elems = t.1 })
      (λ before after t h.
      (path h.1.1 h.1.0 h.2.0, record { start = record { head = a.head; elems = [] }; begins = h.1.2; elems = a.elems; goes_on = h.2.1; is = refl }))
