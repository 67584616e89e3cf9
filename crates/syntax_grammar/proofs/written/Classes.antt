-- The classes that a text of small terminals derives are as texts have them.
use Rattle.std.proofs.Common.{◌≡◌, List, [], All, refl}
use Rattle.std.proofs.lemmas.List.Elements.{All-nil, All-cons}
use Rattle.syntax_tokens.specs.declared.terminal.Placed.{Placed}
use Rattle.syntax_tree.specs.declared.class.Class.{Class}
use Rattle.syntax_tree.specs.declared.class.Member.{Member}
use Rattle.syntax_tree.specs.declared.class.MethodResult.{MethodResult}
use Rattle.syntax_tree.specs.declared.region.Params.{Params}
use Rattle.syntax_tree.specs.declared.region.ParamTree.{ParamTree}
use Rattle.syntax_grammar.specs.Taking.{Many, none, some}
use Rattle.syntax_grammar.specs.Classes.{DerivesDeclared, declared, DerivesParams, no_params, params, DerivesResult, void, DerivesFront, constructs, answers, DerivesField, DerivesMethod, named, DerivesMember, members, DerivesClass, class, DerivesProgram, program}
use Rattle.syntax_grammar.specs.Written.{HasParams, HasFront, MemberIsWritten, ClassIsWritten}
use Rattle.syntax_grammar.proofs.written.Numbers.{Small, Fits, takes, here, join, plainly, following, before, both, changed}
use Rattle.syntax_grammar.proofs.written.Left.{names_left, type_left, kind_left, params_left, formals_left, summary_left, in_left, front_left, parent_left}
use Rattle.syntax_grammar.proofs.written.Statements.{block_fits}

some_declared : {before after : List Placed} {list : List ParamTree} → DerivesDeclared before after list → list ≡ [] → ⊥
some_declared (declared d one others) e = cc

params_written : {before after : List Placed} {tree : Params} → DerivesParams before after tree → HasParams tree
params_written no_params e = refl
params_written (params open_at d g close_at) e = absurd (some_declared d e)

result_written : {before after : List Placed} {answer : MethodResult} (own : Params) → DerivesResult before after answer → HasFront answer own
result_written own (void t) = tt
result_written own (DerivesResult.value d) = tt

front_params : {before after : List Placed} {own : Params} {answer : MethodResult} → DerivesFront before after own answer → HasParams own
front_params constructs = λ e. refl
front_params (answers d result) = params_written d

front_written : {before after : List Placed} {own : Params} {answer : MethodResult} → DerivesFront before after own answer → HasFront answer own
front_written constructs = refl
front_written (answers d result) = result_written _ result

member_written : {before after : List Placed} {tree : Member} → DerivesMember before after tree → Fits (MemberIsWritten tree) before after
member_written (DerivesMember.regions d names ends_at) = plainly (join (kind_left d) (join (names_left names) (takes ends_at)))
member_written (DerivesMember.field d t (DerivesField.field region ends_at)) = plainly (join (type_left d) (join (takes t) (join (in_left region) (takes ends_at))))
member_written (DerivesMember.method f (named t (DerivesMethod.method d s b))) =
    following (join (front_left f) (join (takes t) (join (formals_left d) (summary_left s))))
    (changed (λ fits. record { params = front_params f; front = front_written f; numbers = fits }) (block_fits b))

many : {A : Type 0} (Derives : List Placed → List Placed → A → Type 0) (Is : A → Type 0) → ((before after : List Placed) (one : A) → Derives before after one → Fits (Is one) before after) →
    {before after : List Placed} {all : List A} → Many Derives before after all → Fits (All Is all) before after
many Derives Is each none = record { is = λ small. All-nil Is; left = here }
many Derives Is each (some {item = one} {items = others} d m) = changed (λ fits. All-cons Is one others fits.0 fits.1) (both (each _ _ _ d) (many Derives Is each m))

class_written : {before after : List Placed} {tree : Class} → DerivesClass before after tree → Fits (ClassIsWritten tree) before after
class_written (class t u d p (members open_at m close_at)) =
    following (join (takes t) (join (takes u) (join (params_left d) (join (parent_left p) (takes open_at)))))
    (changed (λ fits. record { params = params_written d; members = fits })
    (before (many DerivesMember MemberIsWritten (λ b a one each. member_written each) m) (takes close_at)))

pub program_written : {list : List Placed} {classes : List Class} → DerivesProgram list classes → Small list → All ClassIsWritten classes
program_written (program {first = one} {others = others} d m) small =
    let fits = both (class_written d) (many DerivesClass ClassIsWritten (λ b a it each. class_written each) m) in
    All-cons ClassIsWritten one others (fits.is small).0 (fits.is small).1
