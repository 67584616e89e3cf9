-- The paths that the summaries of a text hold can be written in a line; so its words are read.
use Rattle.std.proofs.Common.{◌≡◌, ◌∙◌, ⊎_elim, ℕ, suc, List, [], ◌∷◌, ◌++◌, slice_get, Option, Some, refl, ap, sym, subst}
use Rattle.std.specs.Prelude.{Contains}
use Rattle.std.specs.List.{All, AllByRecursion, AllZip}
use Rattle.std.proofs.lemmas.List.Elements.{All-contains, Contains-append_cases, recursion_from_All}
use Rattle.std.proofs.lemmas.Option.{none-some, same_Some}
use Rattle.lang_base.specs.declared.effect.Access.{Access}
use Rattle.lang_base.specs.declared.effect.Access.TheVariants.{Read, Write}
use Rattle.lang_base.specs.declared.effect.Effect.{Effect}
use Rattle.lang_base.specs.declared.elems.Elem.{Elem}
use Rattle.lang_base.specs.declared.elems.Elem.TheVariants.{Name}
use Rattle.lang_base.specs.declared.region.Rpl.{Rpl}
use Rattle.lang_typed.specs.Names.{Named}
use Rattle.lang_typed.specs.Plain.{PlainProgram, PlainClass, PlainMember}
use Rattle.lang_typed.specs.Table.{GoodMember, member_scope}
use Rattle.lang_typed.specs.Scope.{member_at}
use Rattle.lang_typed.specs.Types.{GoodElem, GoodPath}
use Rattle.syntax_tree.specs.declared.class.Class.{Class}
use Rattle.syntax_tree.specs.declared.class.Formal.{Formal}
use Rattle.syntax_tree.specs.declared.class.Item.{Item}
use Rattle.syntax_tree.specs.declared.class.Program.{Program}
use Rattle.syntax_tree.specs.declared.class.SummaryTree.{SummaryTree}
use Rattle.syntax_tree.specs.declared.region.ElemTree.{ElemTree}
use Rattle.syntax_tree.specs.declared.region.RName.{RName}
use Rattle.syntax_tree.specs.declared.region.RplHead.{RplHead}
use Rattle.syntax_tree.specs.declared.region.RplTree.{RplTree}
use Rattle.syntax_means.specs.Accepts.{Accepts}
use Rattle.syntax_means.specs.Bodies.{with_local}
use Rattle.syntax_means.specs.Declares.{MeansIn, OwnMethod, OwnRegion, DeclaresRegion, all_methods, all_regions, names_in}
use Rattle.syntax_means.specs.Means.{ItemMeans, MemberMeans, SummaryMeans, in_method, with_formals}
use Rattle.syntax_means.specs.Paths.{Around, ElemMeans, HeadMeans, PathMeans, RegionMeans, beside}
use Rattle.body_infer.specs.declared.kept.Kept.{Kept}
use Rattle.body_infer.specs.declared.kept.Kept.TheVariants as kept
use Rattle.body_infer.specs.Kept.{summary_kept}
use Rattle.body_infer.specs.Lines.{params_of, summary_text}
use Rattle.sound_infer.proofs.written.Choosing.{first_or_later, here, later, zip_find}
use Rattle.sound_infer.proofs.reading.Paths.{AllSpeakable, AllSpelled, Speakable, SpeakablePath}
use Rattle.sound_infer.proofs.reading.Numbered.{after_all, before_formals, before_spelled, each_in, nothing_in, the_method}
use Rattle.sound_infer.proofs.reading.Parts.{EndsWord, Reads}
use Rattle.sound_infer.proofs.reading.Summaries.{IsSummary, summary_reads}
use Rattle.sound_infer.proofs.reading.Spelled.{ItemsSaid, LiteralSaid, LiteralsSaid, SummarySaid, classes_spelled}

-- around the formals of a method all is as before them, but for locals

formals_spelled : (x : ℕ) (fs : List Formal) (A : Around) (params : List (List ℕ)) → AllSpelled A params → AllSpelled (with_formals x fs A) params
formals_spelled x [] A params all = all
formals_spelled x (f ∷ fs) A params all = formals_spelled (suc x) fs (with_local f.name x A) params (record { regions = all.regions; named = all.named; called = all.called })

pub formals_tree : (x : ℕ) (fs : List Formal) (A : Around) → (with_formals x fs A).tree ≡ A.tree
formals_tree x [] A = refl
formals_tree x (f ∷ fs) A = formals_tree (suc x) fs (with_local f.name x A)

formals_regions : (x : ℕ) (fs : List Formal) (A : Around) → (with_formals x fs A).regions ≡ A.regions
formals_regions x [] A = refl
formals_regions x (f ∷ fs) A = formals_regions (suc x) fs (with_local f.name x A)

-- what a summary of a method means can be written

declared_region : (P : PlainProgram) (tree : Program) (name c n : ℕ) → MeansIn P (DeclaresRegion tree name) c n → (r : OwnRegion) × (slice_get (all_regions tree) n ≡ Some r)
declared_region P tree name c n (MeansIn.its_own d) = (_, d.1)
declared_region P tree name c n (MeansIn.inherited none up m) = declared_region P tree name _ n m

module _ (A : Around) (P : PlainProgram) (k : PlainClass) (m : PlainMember) (no_regions : A.regions ≡ []) where
  abbrev IsGood : Elem → Type 0
  IsGood x = GoodElem P (member_scope k m) 0 x

  region_speakable : {written : RName} {n : ℕ} → RegionMeans A written n → Speakable A (Name n)
  region_speakable {n = n} (RegionMeans.in_class none d) = declared_region A.typed A.tree _ _ n d
  region_speakable {n = n} (RegionMeans.in_other is of d) = declared_region A.typed A.tree _ _ n d

  elem_speakable : (t : ElemTree) (x : Elem) → ElemMeans A [] t x → LiteralSaid A.tree t → IsGood x → Speakable A x
  elem_speakable t x (ElemMeans.a_region r) said good = region_speakable r
  elem_speakable t x ElemMeans.a_star said good = tt
  elem_speakable t x ElemMeans.any_index said good = tt
  elem_speakable t x ElemMeans.a_literal said good = said
  elem_speakable t x (ElemMeans.an_index {d = d} e) said good = absurd (none-some d e)
  elem_speakable t x (ElemMeans.a_variable none e) said good = absurd (none-some _ good)

  elems_speakable : (ts : List ElemTree) (xs : List Elem) → AllZip (ElemMeans A []) ts xs → AllByRecursion (LiteralSaid A.tree) ts → AllByRecursion IsGood xs → AllSpeakable A xs
  elems_speakable [] [] means said good = tt
  elems_speakable [] (x ∷ xs) means said good = absurd means
  elems_speakable (t ∷ ts) [] means said good = absurd means
  elems_speakable (t ∷ ts) (x ∷ xs) means said good = (elem_speakable t x means.0 said.0 good.0, elems_speakable ts xs means.1 said.1 good.1)

  both_speakable : (xs ys : List Elem) → AllSpeakable A xs → AllSpeakable A ys → AllSpeakable A (xs ++ ys)
  both_speakable [] ys a b = b
  both_speakable (x ∷ xs) ys a b = (a.0, both_speakable xs ys a.1 b)

  start_speakable : (h : RplHead) (a : Rpl) → HeadMeans A h a → SpeakablePath A a
  start_speakable h a HeadMeans.at_root = (tt, tt)
  start_speakable h a (HeadMeans.at_param is) = ((_, is.1), tt)
  start_speakable h a (HeadMeans.at_local {written = w} {r = r} none is) = absurd (none-some r (sym (ap (λ rs. beside rs w.first.name) no_regions) ∙ is.1))
  start_speakable h a (HeadMeans.at_region none no_local r) = (tt, (region_speakable r, tt))

  path_speakable : (t : RplTree) (a : Rpl) → PathMeans A [] t a → LiteralsSaid A.tree t → GoodPath P (member_scope k m) 0 a → SpeakablePath A a
  path_speakable t a means said good =
      let start = start_speakable t.head means.start means.begins in
      let elems : AllByRecursion IsGood (means.start.elems ++ means.elems) = subst (λ (b : Rpl). AllByRecursion IsGood b.elems) means.is (recursion_from_All IsGood a.elems good.elems) in
      subst (SpeakablePath A) (sym means.is)
      (start.0, both_speakable means.start.elems means.elems start.1 (elems_speakable t.elems means.elems means.goes_on said (after_all IsGood means.start.elems means.elems elems)))

  item_speakable : (access : Access) (items : List Item) (es : List Effect) → AllZip (ItemMeans A access) items es → ItemsSaid A.tree items → (e : Effect) → Contains es e →
      GoodPath P (member_scope k m) 0 e.rpl → SpeakablePath A e.rpl
  item_speakable access items es means said e c good =
      let w = zip_find (ItemMeans A access) items es e means c in
      path_speakable w.0.rpl e.rpl w.1.path (each_in (λ (item : Item). LiteralsSaid A.tree item.rpl) items said w.0 w.2) good

  summary_speakable : (s : Option SummaryTree) (es : List Effect) → SummaryMeans A s es → SummarySaid A.tree s → All (λ e. GoodPath P (member_scope k m) 0 e.rpl) es → (e : Effect) → Contains es e → SpeakablePath A e.rpl
  summary_speakable s es SummaryMeans.left_out said good e c =
      ⊎_elim (λ is. subst (λ (d : Effect). SpeakablePath A d.rpl) is (tt, (tt, tt))) (λ none. absurd (nothing_in e none)) (first_or_later _ [] e c)
  summary_speakable s es (SummaryMeans.written {summary = summary} reads writes rs ws same) said good e c =
      let path = All-contains (λ (d : Effect). GoodPath P (member_scope k m) 0 d.rpl) es e good c in
      ⊎_elim (λ r. item_speakable Read summary.reads reads rs said.0 e r path) (λ w. item_speakable Write summary.writes writes ws said.1 e w path)
      (Contains-append_cases reads writes e ((same e).0 c))

-- what is kept of an item has its path
kept_from : (ks : List Kept) (es : List Effect) (e : Effect) → Contains (summary_kept ks es) e → (d : Effect) × Contains es d × (d.rpl ≡ e.rpl)
kept_from [] es e c = absurd (nothing_in e c)
kept_from (k ∷ ks) [] e c = absurd (nothing_in e c)
kept_from (kept.Nothing ∷ ks) (d ∷ es) e c = let w = kept_from ks es e c in (w.0, later d es w.0 w.1, w.2)
kept_from (kept.Read ∷ ks) (d ∷ es) e c =
    ⊎_elim (λ is. (d, here d es, ap (λ (f : Effect). f.rpl) is)) (λ more. (let w = kept_from ks es e more in (w.0, later d es w.0 w.1, w.2))) (first_or_later _ (summary_kept ks es) e c)
kept_from (kept.Whole ∷ ks) (d ∷ es) e c =
    ⊎_elim (λ is. (d, here d es, ap (λ (f : Effect). f.rpl) is)) (λ more. (let w = kept_from ks es e more in (w.0, later d es w.0 w.1, w.2))) (first_or_later _ (summary_kept ks es) e c)

module _ (text : List ℕ) (tree : Program) (P : PlainProgram) (accepted : Accepts text tree P) where
  -- the words of a member are read as a summary that says what is kept of its own
  pub words_read : (n : ℕ) (own : OwnMethod) (class : Class) (m : PlainMember) (named : Named) (ks : List Kept) → slice_get (all_methods tree) n ≡ Some own →
      slice_get tree.classes own.class ≡ Some class → member_at P n ≡ Some m → slice_get (names_in tree).members n ≡ Some named →
      Reads tree.names EndsWord (IsSummary (in_method tree P class own) (summary_kept ks m.summary))
      (summary_text (names_in tree) (params_of (names_in tree) own.class named) (summary_kept ks m.summary))
  words_read n own class m named ks is stands at called =
      let spelled = classes_spelled text tree accepted.has_tree in
      let B = before_formals tree P spelled n own class named is stands called in
      let A = in_method tree P class own in
      let params = params_of (names_in tree) own.class named in
      let es = summary_kept ks m.summary in
      let all : AllSpelled A params = formals_spelled 1 own.method.formals B params (before_spelled tree P spelled n own class named is stands called) in
      let same : A.tree ≡ tree = formals_tree 1 own.method.formals B in
      let no_regions : A.regions ≡ [] = formals_regions 1 own.method.formals B in
      let good = accepted.well_typed.members n m at in
      let g = accepted.means.members n own m is at in
      let of_class : g.class ≡ class = same_Some g.class class (sym g.stands ∙ stands) in
      let means : SummaryMeans A own.method.summary m.summary = subst (λ k. SummaryMeans (in_method tree P k own) own.method.summary m.summary) of_class (MemberMeans.summary g) in
      let said : SummarySaid A.tree own.method.summary = subst (λ t. SummarySaid t own.method.summary) (sym same) (the_method tree P spelled n own class named is stands called).1 in
      let speak : (e : Effect) → Contains es e → SpeakablePath A e.rpl = λ e c.
      (let d = kept_from ks m.summary e c in
      subst (SpeakablePath A) d.2 (summary_speakable A P good.class m no_regions own.method.summary m.summary means said (GoodMember.summary good) d.0 d.1)) in
      subst (λ (t : Program). Reads t.names EndsWord (IsSummary A es) (summary_text (names_in t) params es)) same (summary_reads A params all es speak)
