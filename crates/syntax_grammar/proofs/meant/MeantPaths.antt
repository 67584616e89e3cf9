-- Region paths, region parameters and types derive what their parts derive.
use Rattle.std.proofs.Common.{List, [], ◌∷◌, true, false, cond, ◌||◌, None, subst}
use Rattle.lang_base.specs.declared.place.Place.{Place}
use Rattle.syntax_tokens.specs.declared.token.Symbol.{Symbol}
use Rattle.syntax_tokens.specs.declared.token.Keyword.{Keyword}
use Rattle.syntax_tokens.specs.declared.terminal.Placed.{Placed}
use Rattle.syntax_tokens.specs.declared.terminal.Terminal.{Terminal}
use Rattle.syntax_tokens.specs.declared.terminal.Terminal.TheVariants as terminal
use Rattle.syntax_grammar.specs.Taking.{TakesName, StandsAt, place_of, Many, none, some}
use Rattle.syntax_grammar.specs.Words.{is_name, is_number, is_dot, is_colon, is_star, is_open_bracket, is_close_bracket, is_less, is_greater, is_hash, is_question, is_bar, is_comma, is_region, is_atomic, is_root}
use Rattle.syntax_grammar.specs.Paths.{one_name, two_names, DerivesHead, DerivesWithin, DerivesElem, star, within, DerivesNext, next, DerivesRpl, path, DerivesArgs, no_args, args}
use Rattle.syntax_grammar.specs.Types.{DerivesBase, DerivesRegion, no_region, region, DerivesIndex, no_index, index, following, DerivesSuffix, suffix, type_of}
use Rattle.syntax_grammar.specs.Classes.{DerivesAtomic, DerivesKind, DerivesKindOr, DerivesParam, DerivesParamsAfter, DerivesDeclared, DerivesConstr, DerivesGiven, DerivesParams}
use Rattle.syntax_grammar.specs.Expecting.{one, part, next_of, next_is, choose, base_parts}
use Rattle.syntax_grammar.specs.Expecting.{Part as p}
use Rattle.syntax_grammar.proofs.meant.Meant.{Meant, All, AllOf, signed, worded, named, numbered, no_sign, either, item_after, no_item}

-- the place of the next terminal
pub stands : (end : Place) (before : List Placed) → StandsAt before (place_of before end)
stands end [] = record { first = λ n after is. cc }
stands end (first ∷ rest) = record { first = λ n after is. cc }

abbrev pub nowhere : Place
nowhere = record { line = 0; col = 0 }

pub names_of : {before after : List Placed} → AllOf (choose p.names (next_of before)) before after → Meant p.names before after
names_of {before} h = let n = named h.first in h.others before n.0 n.1

pub more_names_of : {before after : List Placed} → AllOf (choose p.more_names (next_of before)) before after → Meant p.more_names before after
more_names_of {before} {after} h =
    either (next_is is_comma (next_of before)) (one is_comma ∷ one is_name ∷ part p.more_names ∷ []) [] before after (Meant p.more_names before after) h
    (λ h. let n = named h.others.first in item_after TakesName before h.mid h.others.mid after n.0 (signed Symbol.Comma h.first) n.1 h.others.others)
    (λ f is. no_item TakesName before after is)

pub region_name_of : {before after : List Placed} → AllOf (choose p.region_name (next_of before)) before after → Meant p.region_name before after
region_name_of {before} h = let n = named h.first in h.others before n.0 n.1

pub second_name_of : {before after : List Placed} → AllOf (choose p.second_name (next_of before)) before after → Meant p.second_name before after
second_name_of {before} {after} h =
    either (next_is is_dot (next_of before)) (one is_dot ∷ one is_name ∷ []) [] before after (Meant p.second_name before after) h
    (λ h s first t. let n = named h.others in (_, two_names t (signed Symbol.Dot h.first) n.1))
    (λ f is s first t. (_, one_name (subst (λ (l : List Placed). TakesName s l first) is t)))

pub path_of : {before after : List Placed} → AllOf (choose p.path (next_of before)) before after → Meant p.path before after
path_of {before} h = (_, path (stands nowhere before) h.first.1 h.others.1)

pub head_of : {before after : List Placed} → AllOf (choose p.head (next_of before)) before after → Meant p.head before after
head_of {before} {after} h =
    either (next_is is_root (next_of before)) (one is_root ∷ []) (part p.region_name ∷ []) before after (Meant p.head before after) h
    (λ h. (_, DerivesHead.root (worded Keyword.Root h)))
    (λ f h. (_, DerivesHead.name h.1))

pub elems_of : {before after : List Placed} → AllOf (choose p.elems (next_of before)) before after → Meant p.elems before after
elems_of {before} {after} h =
    either (next_is is_colon (next_of before)) (one is_colon ∷ part p.elem ∷ part p.elems ∷ []) [] before after (Meant p.elems before after) h
    (λ h. (_, some (next (signed Symbol.Colon h.first) h.others.first.1) h.others.others.1))
    (λ f is. ([], subst (λ (l : List Placed). Many DerivesNext before l []) is none))

pub elem_of : {before after : List Placed} → AllOf (choose p.elem (next_of before)) before after → Meant p.elem before after
elem_of {before} {after} h =
    either (next_is is_star (next_of before)) (one is_star ∷ []) (cond (next_is is_open_bracket (next_of before)) (part p.index ∷ []) (part p.region_name ∷ [])) before after (Meant p.elem before after) h
    (λ h. (_, star (signed Symbol.Star h)))
    (λ f h. either (next_is is_open_bracket (next_of before)) (part p.index ∷ []) (part p.region_name ∷ []) before after (Meant p.elem before after) h
    (λ h. h)
    (λ f h. (_, DerivesElem.name h.1)))

pub index_of : {before after : List Placed} → AllOf (choose p.index (next_of before)) before after → Meant p.index before after
index_of h = (_, within (signed Symbol.OpenBracket h.first) h.others.first.1 (signed Symbol.CloseBracket h.others.others))

pub within_of : {before after : List Placed} → AllOf (choose p.within (next_of before)) before after → Meant p.within before after
within_of {before} {after} h =
    either (next_is is_number (next_of before)) (one is_number ∷ []) (cond (next_is is_question (next_of before)) (one is_question ∷ []) (one is_name ∷ [])) before after (Meant p.within before after) h
    (λ h. let n = numbered h in (_, DerivesWithin.number n.1))
    (λ f h. either (next_is is_question (next_of before)) (one is_question ∷ []) (one is_name ∷ []) before after (Meant p.within before after) h
    (λ h. (_, DerivesWithin.any (signed Symbol.Question h)))
    (λ f h. let n = named h in (_, DerivesWithin.index n.1)))

pub args_if_of : {before after : List Placed} → AllOf (choose p.args_if (next_of before)) before after → Meant p.args_if before after
args_if_of {before} {after} h =
    either (next_is is_less (next_of before)) (part p.args ∷ []) [] before after (Meant p.args_if before after) h
    (λ h. h)
    (λ f is. ([], subst (λ (l : List Placed). DerivesArgs before l []) is no_args))

pub args_of : {before after : List Placed} → AllOf (choose p.args (next_of before)) before after → Meant p.args before after
args_of h =
    let first = h.others.first in
    let all = h.others.others.first h.mid first.0 first.1 in
    (all.0, args (signed Symbol.Less h.first) all.1 (signed Symbol.Greater h.others.others.others))

pub more_paths_of : {before after : List Placed} → AllOf (choose p.more_paths (next_of before)) before after → Meant p.more_paths before after
more_paths_of {before} {after} h =
    either (next_is is_comma (next_of before)) (one is_comma ∷ part p.path ∷ part p.more_paths ∷ []) [] before after (Meant p.more_paths before after) h
    (λ h. item_after DerivesRpl before h.mid h.others.mid after h.others.first.0 (signed Symbol.Comma h.first) h.others.first.1 h.others.others)
    (λ f is. no_item DerivesRpl before after is)

pub params_if_of : {before after : List Placed} → AllOf (choose p.params_if (next_of before)) before after → Meant p.params_if before after
params_if_of {before} {after} h =
    either (next_is is_less (next_of before)) (part p.params ∷ []) [] before after (Meant p.params_if before after) h
    (λ h. h)
    (λ f is. (record { list = []; given = [] }, subst (λ (l : List Placed). DerivesParams before l (record { list = []; given = [] })) is DerivesParams.no_params))

pub params_of : {before after : List Placed} → AllOf (choose p.params (next_of before)) before after → Meant p.params before after
params_of h =
    let kind = h.others.first in
    let name = named h.others.others.first in
    let others = h.others.others.others.first kind.0 in
    let given = h.others.others.others.others.first in
    (_, DerivesParams.params (signed Symbol.Less h.first) (DerivesDeclared.declared kind.1 (DerivesParam.param name.1) others.1) given.1 (signed Symbol.Greater h.others.others.others.others.others))

pub more_declared_of : {before after : List Placed} → AllOf (choose p.more_declared (next_of before)) before after → Meant p.more_declared before after
more_declared_of {before} {after} h =
    either (next_is is_comma (next_of before)) (one is_comma ∷ part p.kind_if ∷ one is_name ∷ part p.more_declared ∷ []) [] before after (Meant p.more_declared before after) h
    (λ h earlier.
    let kind = h.others.first earlier in
    let name = named h.others.others.first in
    let others = h.others.others.others kind.0 in
    (_, DerivesParamsAfter.following (signed Symbol.Comma h.first) kind.1 (DerivesParam.param name.1) others.1))
    (λ f is earlier. ([], subst (λ (l : List Placed). DerivesParamsAfter earlier before l []) is DerivesParamsAfter.no_more))

pub kind_of : {before after : List Placed} → AllOf (choose p.kind (next_of before)) before after → Meant p.kind before after
kind_of h = (h.first.0, DerivesKind.kind h.first.1 (worded Keyword.Region h.others))

pub atomic_if_of : {before after : List Placed} → AllOf (choose p.atomic_if (next_of before)) before after → Meant p.atomic_if before after
atomic_if_of {before} {after} h =
    either (next_is is_atomic (next_of before)) (one is_atomic ∷ []) [] before after (Meant p.atomic_if before after) h
    (λ h. (true, DerivesAtomic.atomic (worded Keyword.Atomic h)))
    (λ f is. (false, subst (λ (l : List Placed). DerivesAtomic before l false) is DerivesAtomic.plain))

pub kind_if_of : {before after : List Placed} → AllOf (choose p.kind_if (next_of before)) before after → Meant p.kind_if before after
kind_if_of {before} {after} h =
    either (next_is is_atomic (next_of before) || next_is is_region (next_of before)) (part p.kind ∷ []) [] before after (Meant p.kind_if before after) h
    (λ h earlier. (h.0, DerivesKindOr.other h.1))
    (λ f is earlier. (earlier, subst (λ (l : List Placed). DerivesKindOr earlier before l earlier) is DerivesKindOr.same))

pub given_of : {before after : List Placed} → AllOf (choose p.given (next_of before)) before after → Meant p.given before after
given_of {before} {after} h =
    either (next_is is_bar (next_of before)) (one is_bar ∷ part p.constraint ∷ part p.more_constraints ∷ []) [] before after (Meant p.given before after) h
    (λ h. let first = h.others.first in let all = h.others.others h.mid first.0 first.1 in (all.0, DerivesGiven.given (signed Symbol.Bar h.first) all.1))
    (λ f is. ([], subst (λ (l : List Placed). DerivesGiven before l []) is DerivesGiven.nothing_given))

pub constraint_of : {before after : List Placed} → AllOf (choose p.constraint (next_of before)) before after → Meant p.constraint before after
constraint_of h = (_, DerivesConstr.constraint h.first.1 (signed Symbol.Hash h.others.first) h.others.others.1)

pub more_constraints_of : {before after : List Placed} → AllOf (choose p.more_constraints (next_of before)) before after → Meant p.more_constraints before after
more_constraints_of {before} {after} h =
    either (next_is is_comma (next_of before)) (one is_comma ∷ part p.constraint ∷ part p.more_constraints ∷ []) [] before after (Meant p.more_constraints before after) h
    (λ h. item_after DerivesConstr before h.mid h.others.mid after h.others.first.0 (signed Symbol.Comma h.first) h.others.first.1 h.others.others)
    (λ f is. no_item DerivesConstr before after is)

pub type_means : {before after : List Placed} → AllOf (choose p.type (next_of before)) before after → Meant p.type before after
type_means {before} h = (_, type_of (stands nowhere before) h.first.1 h.others.1)

class_base : {before after : List Placed} → All (one is_name ∷ part p.args_if ∷ []) before after → Meant p.base before after
class_base h = let n = named h.first in (_, DerivesBase.class n.1 h.others.1)

base_by : (t : Terminal) {before after : List Placed} → All (base_parts t) before after → Meant p.base before after
base_by (terminal.Keyword Keyword.Int) h = (_, DerivesBase.int (worded Keyword.Int h))
base_by (terminal.Keyword Keyword.Boolean) h = (_, DerivesBase.boolean (worded Keyword.Boolean h))
base_by _ h = class_base h

pub base_of : {before after : List Placed} → AllOf (choose p.base (next_of before)) before after → Meant p.base before after
base_of {before = []} h = class_base h
base_of {before = first ∷ rest} h = base_by first.terminal h

pub suffixes_of : {before after : List Placed} → AllOf (choose p.suffixes (next_of before)) before after → Meant p.suffixes before after
suffixes_of {before} {after} h =
    either (next_is is_open_bracket (next_of before)) (one is_open_bracket ∷ one is_close_bracket ∷ part p.brackets_after ∷ part p.suffixes ∷ []) [] before after (Meant p.suffixes before after) h
    (λ h. (_, some (suffix (signed Symbol.OpenBracket h.first) (signed Symbol.CloseBracket h.others.first) h.others.others.first.1) h.others.others.others.1))
    (λ f is. ([], subst (λ (l : List Placed). Many DerivesSuffix before l []) is none))

pub brackets_after_of : {before after : List Placed} → AllOf (choose p.brackets_after (next_of before)) before after → Meant p.brackets_after before after
brackets_after_of h = (_, following h.first.1 h.others.1)

pub region_if_of : {before after : List Placed} → AllOf (choose p.region_if (next_of before)) before after → Meant p.region_if before after
region_if_of {before} {after} h =
    either (next_is is_less (next_of before)) (one is_less ∷ part p.path ∷ one is_greater ∷ []) [] before after (Meant p.region_if before after) h
    (λ h. (_, region (signed Symbol.Less h.first) h.others.first.1 (signed Symbol.Greater h.others.others)))
    (λ f is. (None, subst (λ (l : List Placed). DerivesRegion before l None) is (no_region (no_sign Symbol.Less f))))

pub index_if_of : {before after : List Placed} → AllOf (choose p.index_if (next_of before)) before after → Meant p.index_if before after
index_if_of {before} {after} h =
    either (next_is is_hash (next_of before)) (one is_hash ∷ one is_name ∷ []) [] before after (Meant p.index_if before after) h
    (λ h. let n = named h.others in (_, index (signed Symbol.Hash h.first) n.1))
    (λ f is. (None, subst (λ (l : List Placed). DerivesIndex before l None) is (no_index (no_sign Symbol.Hash f))))
