-- Names that a text declares are spelled as names are, and a literal index in a summary is a number that a token says.
use Rattle.std.proofs.Common.{◌≡◌, ◌∙◌, ◌≤◌, ℕ, ℤ, Bool, List, [], ◌∷◌, ◌++◌, Option, Some, None, ap, sym, subst}
use Rattle.std.specs.Prelude.{pos}
use Rattle.std.specs.List.{AllByRecursion}
use Rattle.std.proofs.lemmas.Option.{get_or_from_slice_get}
use Rattle.lang_base.specs.Lexical.{IsName, decimal_value}
use Rattle.syntax_tokens.specs.declared.token.Keyword.{Keyword}
use Rattle.syntax_tokens.specs.declared.token.Token.{Token}
use Rattle.syntax_tokens.specs.declared.token.TokenKind.{TokenKind}
use Rattle.syntax_tokens.specs.declared.token.TokenKind.TheVariants as kind
use Rattle.syntax_tokens.specs.declared.terminal.Placed.{Placed}
use Rattle.syntax_tokens.specs.declared.terminal.Terminal.{Terminal}
use Rattle.syntax_tokens.specs.declared.terminal.Terminal.TheVariants as terminal
use Rattle.syntax_tokens.specs.Cutting.{StandInOrder}
use Rattle.syntax_tokens.specs.Piece.{IsToken}
use Rattle.syntax_tokens.specs.Says.{MeanAll, Means}
use Rattle.syntax_tokens.proofs.Spans.{cuts-stand}
use Rattle.syntax_tree.specs.declared.class.Class.{Class}
use Rattle.syntax_tree.specs.declared.class.Item.{Item}
use Rattle.syntax_tree.specs.declared.class.Member.{Member}
use Rattle.syntax_tree.specs.declared.class.Member.TheVariants as member
use Rattle.syntax_tree.specs.declared.class.Method.{Method}
use Rattle.syntax_tree.specs.declared.class.MethodResult.{MethodResult}
use Rattle.syntax_tree.specs.declared.class.Program.{Program}
use Rattle.syntax_tree.specs.declared.class.SummaryTree.{SummaryTree}
use Rattle.syntax_tree.specs.declared.region.ElemTree.{ElemTree}
use Rattle.syntax_tree.specs.declared.region.ElemTree.TheVariants as elem
use Rattle.syntax_tree.specs.declared.region.Named.{Named}
use Rattle.syntax_tree.specs.declared.region.Params.{Params}
use Rattle.syntax_tree.specs.declared.region.ParamTree.{ParamTree}
use Rattle.syntax_tree.specs.declared.region.RName.{RName}
use Rattle.syntax_tree.specs.declared.region.RplHead.{RplHead}
use Rattle.syntax_tree.specs.declared.region.RplTree.{RplTree}
use Rattle.syntax_grammar.specs.Classes.{DerivesAtomic, DerivesClass, DerivesDeclared, DerivesField, DerivesFront, DerivesItem, DerivesItems, DerivesKindOr, DerivesMember, DerivesMembers, DerivesMethod, DerivesNamed, DerivesParam, DerivesParams, DerivesParamsAfter, DerivesProgram, DerivesSummary}
use Rattle.syntax_grammar.specs.Paths.{DerivesElem, DerivesHead, DerivesNext, DerivesRName, DerivesRpl, DerivesWithin}
use Rattle.syntax_grammar.specs.Taking.{Listed, Many, TakesName}
use Rattle.syntax_grammar.proofs.written.Left.{formals_left, front_left, in_left, kind_left, params_left, parent_left, type_left}
use Rattle.syntax_grammar.proofs.written.Numbers.{Fits, Leaves, join, takes}
use Rattle.syntax_grammar.proofs.written.Statements.{block_fits}
use Rattle.syntax_means.specs.Accepts.{HasTree}
use Rattle.syntax_means.specs.Declares.{spelled}
use Rattle.syntax_grammar.proofs.written.Numbers.{here as none_left}
use Rattle.sound_infer.proofs.reading.Paths.{IsSpelled}

-- a whole number that a token can say
abbrev pub IsSayable : ℤ → Type 0
IsSayable k = (n : ℕ) × (k ≡ pos n) × (n ≤ 2147483647)

module _ (tree : Program) where
  -- what a terminal says is spelled so
  abbrev IsSaid : Terminal → Type 0
  IsSaid (terminal.Name name) = IsSpelled tree name
  IsSaid (terminal.Int k) = IsSayable k
  IsSaid (terminal.Text text) = Unit {0}
  IsSaid (terminal.Symbol symbol) = Unit {0}
  IsSaid (terminal.Keyword keyword) = Unit {0}

  abbrev AllSaid : List Placed → Type 0
  AllSaid list = AllByRecursion (λ said. IsSaid said.terminal) list

  is_said : (form : TokenKind) (text rest : List ℕ) (said : Terminal) → IsToken form text rest → Means tree.names form text said → IsSaid said
  is_said kind.Name text rest (terminal.Name name) is means =
      let same : spelled tree name ≡ text = get_or_from_slice_get tree.names name text [] means in
      record { there = means ∙ ap (λ t. Some t) (sym same); is = subst (λ t. IsName t) (sym same) is.0 }
  is_said kind.Name text rest (terminal.Int k) is means = absurd means
  is_said kind.Int text rest (terminal.Int k) is means = (decimal_value text, means, is.2)
  is_said kind.Int text rest (terminal.Name name) is means = absurd means
  is_said kind.Text text rest (terminal.Name name) is means = absurd means
  is_said kind.Text text rest (terminal.Int k) is means = absurd means
  is_said (kind.Symbol symbol) text rest (terminal.Name name) is means = absurd means
  is_said (kind.Symbol symbol) text rest (terminal.Int k) is means = absurd means
  is_said (kind.Keyword keyword) text rest (terminal.Name name) is means = absurd means
  is_said (kind.Keyword keyword) text rest (terminal.Int k) is means = absurd means
  is_said form text rest (terminal.Text inside) is means = tt
  is_said form text rest (terminal.Symbol symbol) is means = tt
  is_said form text rest (terminal.Keyword keyword) is means = tt

  all_said : (bytes : List ℕ) (from : ℕ) (tokens : List Token) (list : List Placed) → StandInOrder bytes from tokens → MeanAll tree.names bytes tokens list → AllSaid list
  all_said bytes from [] [] stand all = tt
  all_said bytes from [] (said ∷ list) stand all = absurd all
  all_said bytes from (token ∷ tokens) [] stand all = absurd all
  all_said bytes from (token ∷ tokens) (said ∷ list) (following, stands, others) (place, means, all) =
      (is_said token.kind _ _ said.terminal stands.is means, all_said bytes token.to tokens list others all)

  after_front : (front after : List Placed) → AllSaid (front ++ after) → AllSaid after
  after_front [] after all = all
  after_front (said ∷ front) after all = after_front front after all.1

  still_said : {before after : List Placed} → Leaves before after → AllSaid before → AllSaid after
  still_said {after = after} p all = after_front p.front after (subst AllSaid p.whole all)

  -- a part of the text has this property, where what the terminals before it say is spelled so, and leaves terminals after it
  record Finds (Is : Type 0) (before after : List Placed) : Type 0 where
    is : AllSaid before → Is
    left : Leaves before after

  plainly : {before after : List Placed} → Leaves before after → Finds (Unit {0}) before after
  plainly p = record { is = λ all. tt; left = p }

  following : {Is : Type 0} {before one after : List Placed} → Leaves before one → Finds Is one after → Finds Is before after
  following p f = record { is = λ all. f.is (still_said p all); left = join p f.left }

  before : {Is : Type 0} {before one after : List Placed} → Finds Is before one → Leaves one after → Finds Is before after
  before f p = record { is = f.is; left = join f.left p }

  both : {Is Are : Type 0} {before one after : List Placed} → Finds Is before one → Finds Are one after → Finds (Is × Are) before after
  both f g = record { is = λ all. (f.is all, g.is (still_said f.left all)); left = join f.left g.left }

  changed : {Is So : Type 0} {before after : List Placed} → (Is → So) → Finds Is before after → Finds So before after
  changed f d = record { is = λ all. f (d.is all); left = d.left }

  name_found : {before after : List Placed} {named : Named} → TakesName before after named → Finds (IsSpelled tree named.name) before after
  name_found t = record { is = λ all. (subst AllSaid t.first all).0; left = takes t }

  many_found : {X : Type 0} (Derives : List Placed → List Placed → X → Type 0) (Is : X → Type 0) → ((before after : List Placed) (one : X) → Derives before after one → Finds (Is one) before after) →
      {before after : List Placed} {xs : List X} → Many Derives before after xs → Finds (AllByRecursion Is xs) before after
  many_found Derives Is each Many.none = record { is = λ all. tt; left = none_left }
  many_found Derives Is each (Many.some d m) = both (each _ _ _ d) (many_found Derives Is each m)

  listed_found : {X : Type 0} (Derives : List Placed → List Placed → X → Type 0) (Is : X → Type 0) → ((before after : List Placed) (one : X) → Derives before after one → Finds (Is one) before after) →
      {before after : List Placed} {xs : List X} → Listed Derives before after xs → Finds (AllByRecursion Is xs) before after
  listed_found Derives Is each (Listed.last d) = changed (λ is. (is, tt)) (each _ _ _ d)
  listed_found Derives Is each (Listed.more d comma l) = both (each _ _ _ d) (following (takes comma) (listed_found Derives Is each l))

  -- region parameters

  abbrev pub ParamsSpelled : List ParamTree → Type 0
  ParamsSpelled params = AllByRecursion (λ param. IsSpelled tree param.name) params

  kind_found : {earlier is_atomic : Bool} {before after : List Placed} → DerivesKindOr earlier before after is_atomic → Leaves before after
  kind_found DerivesKindOr.same = none_left
  kind_found (DerivesKindOr.other d) = kind_left d

  param_found : {is_atomic : Bool} {before after : List Placed} {param : ParamTree} → DerivesParam is_atomic before after param → Finds (IsSpelled tree param.name) before after
  param_found (DerivesParam.param t) = name_found t

  params_after_found : {earlier : Bool} {before after : List Placed} {params : List ParamTree} → DerivesParamsAfter earlier before after params → Finds (ParamsSpelled params) before after
  params_after_found DerivesParamsAfter.no_more = record { is = λ all. tt; left = none_left }
  params_after_found (DerivesParamsAfter.following comma d one others) = following (join (takes comma) (kind_found d)) (both (param_found one) (params_after_found others))

  declared_found : {before after : List Placed} {params : List ParamTree} → DerivesDeclared before after params → Finds (ParamsSpelled params) before after
  declared_found (DerivesDeclared.declared d one others) = following (kind_left d) (both (param_found one) (params_after_found others))

  params_found : {before after : List Placed} {params : Params} → DerivesParams before after params → Finds (ParamsSpelled params.list) before after
  params_found d = record { is = by d; left = params_left d }
    where
      by : {before after : List Placed} {params : Params} → DerivesParams before after params → AllSaid before → ParamsSpelled params.list
      by DerivesParams.no_params all = tt
      by (DerivesParams.params open_at d g close_at) all = (following (takes open_at) (declared_found d)).is all

  -- literal indices in summaries

  abbrev pub LiteralSaid : ElemTree → Type 0
  LiteralSaid (elem.Lit k) = IsSayable k
  LiteralSaid (elem.Name name) = Unit {0}
  LiteralSaid (elem.Index name) = Unit {0}
  LiteralSaid elem.Star = Unit {0}
  LiteralSaid elem.Any = Unit {0}

  abbrev pub LiteralsSaid : RplTree → Type 0
  LiteralsSaid path = AllByRecursion LiteralSaid path.elems

  name_left : {before after : List Placed} {name : RName} → DerivesRName before after name → Leaves before after
  name_left (DerivesRName.one_name t) = takes t
  name_left (DerivesRName.two_names t dot u) = join (takes t) (join (takes dot) (takes u))

  head_found : {before after : List Placed} {start : RplHead} → DerivesHead before after start → Leaves before after
  head_found (DerivesHead.root t) = takes t
  head_found (DerivesHead.name d) = name_left d

  within_found : {before after : List Placed} {x : ElemTree} → DerivesWithin before after x → Finds (LiteralSaid x) before after
  within_found (DerivesWithin.number t) = record { is = λ all. (subst AllSaid t.first all).0; left = takes t }
  within_found (DerivesWithin.index t) = plainly (takes t)
  within_found (DerivesWithin.any t) = plainly (takes t)

  elem_found : {before after : List Placed} {x : ElemTree} → DerivesElem before after x → Finds (LiteralSaid x) before after
  elem_found (DerivesElem.name d) = plainly (name_left d)
  elem_found (DerivesElem.star t) = plainly (takes t)
  elem_found (DerivesElem.within open_at d close_at) = following (takes open_at) (before (within_found d) (takes close_at))

  next_found : {before after : List Placed} {x : ElemTree} → DerivesNext before after x → Finds (LiteralSaid x) before after
  next_found (DerivesNext.next colon d) = following (takes colon) (elem_found d)

  path_found : {before after : List Placed} {path : RplTree} → DerivesRpl before after path → Finds (LiteralsSaid path) before after
  path_found (DerivesRpl.path stands d m) = following (head_found d) (many_found DerivesNext LiteralSaid (λ b a one each. next_found each) m)

  atomic_left : {before after : List Placed} {is_atomic : Bool} → DerivesAtomic before after is_atomic → Leaves before after
  atomic_left DerivesAtomic.plain = none_left
  atomic_left (DerivesAtomic.atomic t) = takes t

  abbrev pub ItemsSaid : List Item → Type 0
  ItemsSaid items = AllByRecursion (λ item. LiteralsSaid item.rpl) items

  item_found : {before after : List Placed} {item : Item} → DerivesItem before after item → Finds (LiteralsSaid item.rpl) before after
  item_found (DerivesItem.item d e) = following (atomic_left d) (path_found e)

  items_found : {keyword : Keyword} {before after : List Placed} {items : List Item} → DerivesItems keyword before after items → Finds (ItemsSaid items) before after
  items_found (DerivesItems.items t l) = following (takes t) (listed_found DerivesItem (λ item. LiteralsSaid item.rpl) (λ b a one each. item_found each) l)

  abbrev pub SummarySaid : Option SummaryTree → Type 0
  SummarySaid None = Unit {0}
  SummarySaid (Some summary) = ItemsSaid summary.reads × ItemsSaid summary.writes

  summary_found : {before after : List Placed} {summary : Option SummaryTree} → DerivesSummary before after summary → Finds (SummarySaid summary) before after
  summary_found DerivesSummary.no_summary = plainly none_left
  summary_found (DerivesSummary.pure t) = record { is = λ all. (tt, tt); left = takes t }
  summary_found (DerivesSummary.reads d) = changed (λ is. (is, tt)) (items_found d)
  summary_found (DerivesSummary.reads_and_writes d e) = both (items_found d) (items_found e)
  summary_found (DerivesSummary.writes d) = changed (λ is. (tt, is)) (items_found d)

  -- members and classes

  abbrev pub MethodSpelled : Method → Type 0
  MethodSpelled method = ParamsSpelled method.params.list × SummarySaid method.summary

  abbrev pub MemberSpelled : Member → Type 0
  MemberSpelled (member.Regions is_atomic names) = AllByRecursion (λ (named : Named). IsSpelled tree named.name) names
  MemberSpelled (member.Field field) = Unit {0}
  MemberSpelled (member.Method method) = MethodSpelled method

  front_found : {before after : List Placed} {params : Params} {answer : MethodResult} → DerivesFront before after params answer → Finds (ParamsSpelled params.list) before after
  front_found d = record { is = by d; left = front_left d }
    where
      by : {before after : List Placed} {params : Params} {answer : MethodResult} → DerivesFront before after params answer → AllSaid before → ParamsSpelled params.list
      by DerivesFront.constructs all = tt
      by (DerivesFront.answers d result) all = (params_found d).is all

  member_found : {before after : List Placed} {m : Member} → DerivesMember before after m → Finds (MemberSpelled m) before after
  member_found (DerivesMember.regions d names ends_at) =
      following (kind_left d) (before (listed_found TakesName (λ (named : Named). IsSpelled tree named.name) (λ b a one t. name_found t) names) (takes ends_at))
  member_found (DerivesMember.field d t (DerivesField.field region ends_at)) = plainly (join (type_left d) (join (takes t) (join (in_left region) (takes ends_at))))
  member_found (DerivesMember.method f (DerivesNamed.named t (DerivesMethod.method d s b))) =
      both (front_found f) (following (join (takes t) (formals_left d)) (before (summary_found s) (Fits.left (block_fits b))))

  abbrev pub ClassSpelled : Class → Type 0
  ClassSpelled class = IsSpelled tree class.name × ParamsSpelled class.params.list × AllByRecursion MemberSpelled class.members

  class_found : {before after : List Placed} {class : Class} → DerivesClass before after class → Finds (ClassSpelled class) before after
  class_found (DerivesClass.class t u d p (DerivesMembers.members open_at m close_at)) =
      following (takes t) (changed (λ is. (is.0, is.1.0, is.1.1)) (both (name_found u) (both (params_found d)
      (following (join (parent_left p) (takes open_at)) (before (many_found DerivesMember MemberSpelled (λ b a one each. member_found each) m) (takes close_at))))))

  classes_found : {list : List Placed} {classes : List Class} → DerivesProgram list classes → AllSaid list → AllByRecursion ClassSpelled classes
  classes_found (DerivesProgram.program d m) all = (both (class_found d) (many_found DerivesClass ClassSpelled (λ b a one each. class_found each) m)).is all

pub classes_spelled : (text : List ℕ) (tree : Program) → HasTree text tree → AllByRecursion (ClassSpelled tree) tree.classes
classes_spelled text tree has = classes_found tree has.derived (all_said tree text 0 has.tokens has.list (cuts-stand text has.tokens has.end has.cut) has.said)
