-- Members, classes and programs derive what their parts derive.
use Rattle.std.proofs.Common.{List, [], ◌∷◌, map, cond, ◌||◌, inl, inr, Some, None, sym, subst}
use Rattle.syntax_tokens.specs.declared.token.Symbol.{Symbol}
use Rattle.syntax_tokens.specs.declared.token.Keyword.{Keyword}
use Rattle.syntax_tokens.specs.declared.terminal.Placed.{Placed}
use Rattle.syntax_tokens.specs.declared.terminal.Terminal.{Terminal}
use Rattle.syntax_tokens.specs.declared.terminal.Terminal.TheVariants as terminal
use Rattle.syntax_tree.specs.declared.class.MethodResult.TheVariants as outcome
use Rattle.syntax_tree.specs.Plain.{plain_stmt, plain_stmts}
use Rattle.syntax_grammar.specs.Taking.{Many, none, some}
use Rattle.syntax_grammar.specs.Words.{is_name, is_comma, is_semicolon, is_open_paren, is_close_paren, is_close_brace, is_in, is_void, is_reads, is_writes, is_pure, is_extends}
use Rattle.syntax_grammar.specs.Types.{DerivesBase, type_of}
use Rattle.syntax_grammar.specs.Statements.{DerivesBlock}
use Rattle.syntax_grammar.specs.Classes.{DerivesParams, DerivesFormal, DerivesFormalList, DerivesFormals, DerivesItem, DerivesItems, DerivesSummary, DerivesIn, DerivesResult, DerivesFront, DerivesField, DerivesMethod, DerivesNamed, DerivesMember, DerivesParent, DerivesMembers, DerivesClass, DerivesProgram}
use Rattle.syntax_grammar.specs.Expecting.{one, part, next_of, next_is, choose, member_parts}
use Rattle.syntax_grammar.specs.Expecting.{Part as p}
use Rattle.syntax_grammar.proofs.meant.Meant.{Meant, All, AllOf, Declared, signed, worded, named, either, item_after, no_item}
use Rattle.syntax_grammar.proofs.meant.MeantPaths.{stands, nowhere}
use Rattle.syntax_grammar.proofs.Rebuilt.{stmts_tree}

of_kind : {before after : List Placed} → All (part p.kind ∷ part p.names ∷ one is_semicolon ∷ []) before after → Declared before after
of_kind h = (_, DerivesMember.regions h.first.1 h.others.first.1 (signed Symbol.Semicolon h.others.others))

of_method : {before after : List Placed} → All (part p.params_if ∷ part p.result ∷ one is_name ∷ part p.method_rest ∷ []) before after → Declared before after
of_method h =
    let name = named h.others.others.first in
    let rest = h.others.others.others h.first.0 h.others.first.0 name.0 in
    (rest.0, DerivesMember.method (DerivesFront.answers h.first.1 h.others.first.1) (DerivesNamed.named name.1 rest.1))

of_type : {before after : List Placed} → All (part p.type ∷ one is_name ∷ part p.field_or_method ∷ []) before after → Declared before after
of_type {before} h = let name = named h.others.first in h.others.others before h.mid h.first.0 name.0 h.first.1 name.1

member_by : (t : Terminal) {before after : List Placed} → All (member_parts t) before after → Declared before after
member_by (terminal.Keyword Keyword.Atomic) h = of_kind h
member_by (terminal.Keyword Keyword.Region) h = of_kind h
member_by (terminal.Symbol Symbol.Less) h = of_method h
member_by (terminal.Keyword Keyword.Void) h = of_method h
member_by (terminal.Name n) {before} h = let name = named h.first in h.others before name.0 name.1
member_by _ h = of_type h

pub member_of : {before after : List Placed} → AllOf (choose p.member (next_of before)) before after → Meant p.member before after
member_of {before = []} h = of_type h
member_of {before = first ∷ rest} h = member_by first.terminal h

pub after_member_name_of : {before after : List Placed} → AllOf (choose p.after_member_name (next_of before)) before after → Meant p.after_member_name before after
after_member_name_of {before} {after} h =
    either (next_is is_open_paren (next_of before)) (part p.method_rest ∷ []) (part p.args_if ∷ part p.suffixes ∷ one is_name ∷ part p.field_or_method ∷ []) before after (Meant p.after_member_name before after) h
    (λ h s name n. let rest = h _ outcome.Constructor name in (rest.0, DerivesMember.method DerivesFront.constructs (DerivesNamed.named n rest.1)))
    (λ f h s name n.
    let field = named h.others.others.first in
    h.others.others.others s _ _ field.0 (type_of (stands nowhere s) (DerivesBase.class n h.first.1) h.others.first.1) field.1)

pub field_or_method_of : {before after : List Placed} → AllOf (choose p.field_or_method (next_of before)) before after → Meant p.field_or_method before after
field_or_method_of {before} {after} h =
    either (next_is is_open_paren (next_of before)) (part p.method_rest ∷ []) (part p.in_if ∷ one is_semicolon ∷ []) before after (Meant p.field_or_method before after) h
    (λ h s i ty name d n.
    let rest = h (record { list = []; given = [] }) (outcome.Value ty) name in
    (rest.0, DerivesMember.method (DerivesFront.answers DerivesParams.no_params (DerivesResult.value d)) (DerivesNamed.named n rest.1)))
    (λ f h s i ty name d n. (_, DerivesMember.field d n (DerivesField.field h.first.1 (signed Symbol.Semicolon h.others))))

pub in_if_of : {before after : List Placed} → AllOf (choose p.in_if (next_of before)) before after → Meant p.in_if before after
in_if_of {before} {after} h =
    either (next_is is_in (next_of before)) (one is_in ∷ part p.path ∷ []) [] before after (Meant p.in_if before after) h
    (λ h. (_, DerivesIn.in_region (worded Keyword.In h.first) h.others.1))
    (λ f is. (None, subst (λ (l : List Placed). DerivesIn before l None) is DerivesIn.nowhere))

pub result_of : {before after : List Placed} → AllOf (choose p.result (next_of before)) before after → Meant p.result before after
result_of {before} {after} h =
    either (next_is is_void (next_of before)) (one is_void ∷ []) (part p.type ∷ []) before after (Meant p.result before after) h
    (λ h. (_, DerivesResult.void (worded Keyword.Void h)))
    (λ f h. (_, DerivesResult.value h.1))

pub method_rest_of : {before after : List Placed} → AllOf (choose p.method_rest (next_of before)) before after → Meant p.method_rest before after
method_rest_of {after = after} h params answer name =
    let body = stmts_tree h.others.others.0 in
    let block : DerivesBlock h.others.mid after (plain_stmts (map plain_stmt body.0)) = rw body.1 h.others.others.1 in
    (_, DerivesMethod.method h.first.1 h.others.first.1 block)

pub formals_of : {before after : List Placed} → AllOf (choose p.formals (next_of before)) before after → Meant p.formals before after
formals_of h = (_, DerivesFormals.parenthesised (signed Symbol.OpenParen h.first) h.others.first.1 (signed Symbol.CloseParen h.others.others))

pub formal_list_of : {before after : List Placed} → AllOf (choose p.formal_list (next_of before)) before after → Meant p.formal_list before after
formal_list_of {before} {after} h =
    either (next_is is_close_paren (next_of before)) [] (part p.formal ∷ part p.more_formals ∷ []) before after (Meant p.formal_list before after) h
    (λ is. ([], subst (λ (l : List Placed). DerivesFormalList before l []) is DerivesFormalList.no_formals))
    (λ f h. let all = h.others before h.first.0 h.first.1 in (all.0, DerivesFormalList.formals all.1))

pub formal_of : {before after : List Placed} → AllOf (choose p.formal (next_of before)) before after → Meant p.formal before after
formal_of h = let n = named h.others in (_, DerivesFormal.formal h.first.1 n.1)

pub more_formals_of : {before after : List Placed} → AllOf (choose p.more_formals (next_of before)) before after → Meant p.more_formals before after
more_formals_of {before} {after} h =
    either (next_is is_comma (next_of before)) (one is_comma ∷ part p.formal ∷ part p.more_formals ∷ []) [] before after (Meant p.more_formals before after) h
    (λ h. item_after DerivesFormal before h.mid h.others.mid after h.others.first.0 (signed Symbol.Comma h.first) h.others.first.1 h.others.others)
    (λ f is. no_item DerivesFormal before after is)

summary_by : {before m after : List Placed} → Meant p.reads_if before m → Meant p.writes_if m after → Meant p.summary before after
summary_by {before} (inl r) (inl w) = (None, subst (λ (l : List Placed). DerivesSummary before l None) w (subst (λ (l : List Placed). DerivesSummary before l None) r DerivesSummary.no_summary))
summary_by {after = after} (inl r) (inr w) =
    (Some (record { reads = []; writes = w.0 }), subst (λ (l : List Placed). DerivesSummary l after (Some (record { reads = []; writes = w.0 }))) (sym r) (DerivesSummary.writes w.1))
summary_by {before} (inr r) (inl w) =
    (Some (record { reads = r.0; writes = [] }), subst (λ (l : List Placed). DerivesSummary before l (Some (record { reads = r.0; writes = [] }))) w (DerivesSummary.reads r.1))
summary_by (inr r) (inr w) = (_, DerivesSummary.reads_and_writes r.1 w.1)

pub summary_of : {before after : List Placed} → AllOf (choose p.summary (next_of before)) before after → Meant p.summary before after
summary_of {before} {after} h =
    either (next_is is_reads (next_of before) || next_is is_writes (next_of before)) (part p.reads_if ∷ part p.writes_if ∷ []) (cond (next_is is_pure (next_of before)) (one is_pure ∷ []) []) before after (Meant p.summary before after) h
    (λ h. summary_by h.first h.others)
    (λ f h. either (next_is is_pure (next_of before)) (one is_pure ∷ []) [] before after (Meant p.summary before after) h
    (λ h. (_, DerivesSummary.pure (worded Keyword.Pure h)))
    (λ f is. (None, subst (λ (l : List Placed). DerivesSummary before l None) is DerivesSummary.no_summary)))

pub reads_if_of : {before after : List Placed} → AllOf (choose p.reads_if (next_of before)) before after → Meant p.reads_if before after
reads_if_of {before} {after} h =
    either (next_is is_reads (next_of before)) (one is_reads ∷ part p.items ∷ []) [] before after (Meant p.reads_if before after) h
    (λ h. inr (_, DerivesItems.items (worded Keyword.Reads h.first) h.others.1))
    (λ f is. inl is)

pub writes_if_of : {before after : List Placed} → AllOf (choose p.writes_if (next_of before)) before after → Meant p.writes_if before after
writes_if_of {before} {after} h =
    either (next_is is_writes (next_of before)) (one is_writes ∷ part p.items ∷ []) [] before after (Meant p.writes_if before after) h
    (λ h. inr (_, DerivesItems.items (worded Keyword.Writes h.first) h.others.1))
    (λ f is. inl is)

pub items_of : {before after : List Placed} → AllOf (choose p.items (next_of before)) before after → Meant p.items before after
items_of {before} h = h.others before h.first.0 h.first.1

pub item_of : {before after : List Placed} → AllOf (choose p.item (next_of before)) before after → Meant p.item before after
item_of h = (_, DerivesItem.item h.first.1 h.others.1)

pub more_items_of : {before after : List Placed} → AllOf (choose p.more_items (next_of before)) before after → Meant p.more_items before after
more_items_of {before} {after} h =
    either (next_is is_comma (next_of before)) (one is_comma ∷ part p.item ∷ part p.more_items ∷ []) [] before after (Meant p.more_items before after) h
    (λ h. item_after DerivesItem before h.mid h.others.mid after h.others.first.0 (signed Symbol.Comma h.first) h.others.first.1 h.others.others)
    (λ f is. no_item DerivesItem before after is)

pub class_means : {before after : List Placed} → AllOf (choose p.class (next_of before)) before after → Meant p.class before after
class_means h =
    let name = named h.others.first in
    (_, DerivesClass.class (worded Keyword.Class h.first) name.1 h.others.others.first.1 h.others.others.others.first.1 h.others.others.others.others.1)

pub parent_if_of : {before after : List Placed} → AllOf (choose p.parent_if (next_of before)) before after → Meant p.parent_if before after
parent_if_of {before} {after} h =
    either (next_is is_extends (next_of before)) (one is_extends ∷ one is_name ∷ part p.args_if ∷ []) [] before after (Meant p.parent_if before after) h
    (λ h. let n = named h.others.first in (_, DerivesParent.extends (worded Keyword.Extends h.first) n.1 h.others.others.1))
    (λ f is. (None, subst (λ (l : List Placed). DerivesParent before l None) is DerivesParent.no_parent))

pub members_of : {before after : List Placed} → AllOf (choose p.members (next_of before)) before after → Meant p.members before after
members_of h = (_, DerivesMembers.members (signed Symbol.OpenBrace h.first) h.others.first.1 (signed Symbol.CloseBrace h.others.others))

pub member_list_of : {before after : List Placed} → AllOf (choose p.member_list (next_of before)) before after → Meant p.member_list before after
member_list_of {before} {after} h =
    either (next_is is_close_brace (next_of before)) [] (part p.member ∷ part p.member_list ∷ []) before after (Meant p.member_list before after) h
    (λ is. ([], subst (λ (l : List Placed). Many DerivesMember before l []) is none))
    (λ f h. (_, some h.first.1 h.others.1))

pub program_of : {before after : List Placed} → AllOf (choose p.program (next_of before)) before after → Meant p.program before after
program_of h ends = (_, DerivesProgram.program h.first.1 (subst (λ (l : List Placed). Many DerivesClass h.mid l h.others.0) ends h.others.1))

pub more_classes_of : {before after : List Placed} → AllOf (choose p.more_classes (next_of before)) before after → Meant p.more_classes before after
more_classes_of {before = []} is = ([], subst (λ (l : List Placed). Many DerivesClass [] l []) is none)
more_classes_of {before = first ∷ rest} h = (_, some h.first.1 h.others.1)
