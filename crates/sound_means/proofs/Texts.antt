-- A text that passes has the tree of its program, which means its typed program, declares no name twice and has its names.
use Rattle.std.proofs.Common.{◌≡◌, ◌∙◌, ℕ, suc, ◌+◌, ◌<◌, ◌≤◌, Bool, true, false, cond, List, [], ◌∷◌, ◌++◌, length, Ok, refl, sym, ap, subst, arith}
use Rattle.std.proofs.lemmas.List.{length-append}
use Rattle.std.specs.List.{list_any}
use Rattle.std.specs.Str.{bytes_eq}
use Rattle.lang_base.specs.declared.place.Place.{Place}
use Rattle.syntax_tokens.specs.declared.terminal.Placed.{Placed}
use Rattle.syntax_tokens.specs.declared.token.Token.{Token}
use Rattle.syntax_tokens.specs.declared.token.TokenKind.{TokenKind}
use Rattle.syntax_tokens.specs.declared.token.TokenKind.TheVariants as kind
use Rattle.syntax_tokens.specs.Cutting.{Cuts, OneCutting}
use Rattle.syntax_tokens.specs.Says.{with_token, names_with, token_text, MeanAll}
use Rattle.syntax_tokens.proofs.Order.{order-count}
use Rattle.syntax_tokens.proofs.Spans.{cuts-stand}
use Rattle.syntax_tree.specs.declared.class.Program.{Program}
use Rattle.syntax_tree.specs.Size.{program_size}
use Rattle.syntax_tree.proofs.Sizes.{classes_counted}
use Rattle.syntax_grammar.specs.Classes.{DerivesProgram}
use Rattle.syntax_grammar.specs.Program.{IsProgram}
use Rattle.syntax_grammar.specs.Refusing.{IsWithin}
use Rattle.syntax_grammar.proofs.once.OnceText.{terminals_once, text_once}
use Rattle.syntax_grammar.proofs.Promised.{named_in, sized_in}
use Rattle.syntax_grammar.specs.Texts.{TextsAreWritten}
use Rattle.decl_headers.proofs.Shaped.{counted_when_named}
use Rattle.decl_table.specs.declared.table.Table.{Table}
use Rattle.decl_classes.specs.Build.{check_table}
use Rattle.body_assembly.specs.Assembled.{PlainBody}
use Rattle.body_check.specs.Methods.{BodiesChecking}
use Rattle.lang_typed.specs.WellTyped.{WellTyped}
use Rattle.syntax_means.specs.Accepts.{HasTree}
use Rattle.syntax_means.specs.Declares.{names_in}
use Rattle.syntax_means.specs.Means.{Means}
use Rattle.sound_lemmas.specs.Accepted.{IsAccepted, SmallHasRows}
use Rattle.sound_bodies.specs.Laws.{AcceptedIsWellTyped}
use Rattle.sound_means.specs.Laws.{AcceptedMeans, FieldNamesMean, PassedMeans, NamesMean}
use Rattle.tool_front.specs.Judging.{Judged, field_names_in}
use Rattle.tool_front.proofs.Judged.{parts}
use Rattle.sound_means.proofs.Names.{names_alike}
use Rattle.sound_means.proofs.Unambiguous.{unambiguous}

has_tree : (text : List ℕ) (tokens : List Token) (end : Place) (program : Program) → Cuts text tokens end → IsProgram text tokens program → HasTree text program
has_tree text tokens end program cut d = record { tokens = tokens; end = end; cut = cut; list = d.list; names = d.names; said = d.said; derived = d.derived }

-- a text has no more names than tokens
token_few : (of : TokenKind) (names : List (List ℕ)) (text : List ℕ) → length (with_token of names text) ≤ suc (length names)
token_few kind.Name names text = by (list_any (bytes_eq text) names)
  where
    by : (known : Bool) → length (cond known names (names ++ text ∷ [])) ≤ suc (length names)
    by true = omega arith
    by false = let both = length-append names (text ∷ []) in omega (arith, both)
token_few kind.Int names text = omega arith
token_few kind.Text names text = omega arith
token_few (kind.Symbol symbol) names text = omega arith
token_few (kind.Keyword keyword) names text = omega arith

names_few : (bytes : List ℕ) (names : List (List ℕ)) (tokens : List Token) → length (names_with bytes names tokens) ≤ length names + length tokens
names_few bytes names [] = omega arith
names_few bytes names (token ∷ tokens) =
    let one = token_few token.kind names (token_text bytes token) in
    let rest = names_few bytes (with_token token.kind names (token_text bytes token)) tokens in
    omega (arith, one, rest)

few_names : (text : List ℕ) (tokens : List Token) (end : Place) (program : Program) → length text ≤ 1048576 → Cuts text tokens end → IsProgram text tokens program → length program.names ≤ 4294967295
few_names text tokens end program short cut d =
    let most = names_few text [] tokens in
    let count = order-count text 0 tokens (omega arith) (cuts-stand text tokens end cut) in
    let names = ap length d.names in
    omega (arith, most, count, names, short)

-- what passes is accepted
passes : SmallHasRows → (text : List ℕ) (tokens : List Token) (end : Place) (program : Program) (table : Table) (bodies : List PlainBody) → length text ≤ 1048576 → Cuts text tokens end →
    IsProgram text tokens program → check_table program ≡ Ok table → BodiesChecking program table (Ok bodies) → IsAccepted program table bodies
passes has_rows text tokens end program table bodies short cut derived has_table checked =
    let sized : program_size program ≤ length text = sized_in (cuts-stand text tokens end cut) derived in
    let few : length program.classes < 4294967295 = omega (arith, sized, short, classes_counted program) in
    record {
      rows = has_rows program table (counted_when_named program few (named_in derived)) has_table (omega (arith, sized, short));
      checked = checked;
    }

pub passed_means : AcceptedMeans → AcceptedIsWellTyped → TextsAreWritten → SmallHasRows → PassedMeans
passed_means means well_typed written has_rows text place typed short passed =
    let program = passed.has_program.program in
    let accepted = parts (λ (j : Judged). j.typed) program typed passed.has_program.accepted in
    let derived = passed.has_program.derived in
    let as_texts = written text passed.tokens passed.end program short passed.cut derived in
    let is : IsAccepted program accepted.table accepted.bodies =
    passes has_rows text passed.tokens passed.end program accepted.table accepted.bodies short passed.cut derived accepted.has_table accepted.checked in (
      program,
      record {
        has_tree = has_tree text passed.tokens passed.end program passed.cut derived;
        means = subst (Means program) (sym accepted.so)
            (means program accepted.table accepted.bodies (few_names text passed.tokens passed.end program short passed.cut derived) as_texts is);
        well_typed = subst WellTyped (sym accepted.so) (well_typed program accepted.table accepted.bodies as_texts is);
        unambiguous = unambiguous program accepted.table is.rows typed;
      },
    )

-- a text has one tree at most where it has one within the limits
tree_once : (bytes : List ℕ) (tokens : List Token) (tree program : Program) (list : List Placed) (names : List (List ℕ)) → tree.names ≡ names → MeanAll tree.names bytes tokens list → DerivesProgram list tree.classes →
    (d : IsProgram bytes tokens program) → names ≡ program.names → tree ≡ program
tree_once bytes tokens tree program list names said_so said derived d same_names =
    let here = subst (λ ns. MeanAll ns bytes tokens list) (said_so ∙ same_names ∙ d.names) said in
    let there = subst (λ ns. MeanAll ns bytes tokens d.list) d.names d.said in
    let same : list ≡ d.list = terminals_once bytes tokens list d.list here there in
    text_once bytes tokens tree program (record { list = list; names = said_so ∙ same_names ∙ d.names; said = said; derived = derived; within = subst IsWithin (sym same) d.within }) d

pub names_mean : OneCutting → TextsAreWritten → SmallHasRows → NamesMean
names_mean cutting written has_rows text names tree short are tree_of =
    let program = are.has_named.program in
    let has = parts (λ (j : Judged). j.names) program names are.has_named.has_names in
    let derived = are.has_named.derived in
    let same = (cutting.tokens text tree_of.tokens are.tokens tree_of.end are.end tree_of.cut are.cut).0 in
    let one : tree ≡ program =
    tree_once text are.tokens tree program tree_of.list tree.names refl (subst (λ ts. MeanAll tree.names text ts tree_of.list) same tree_of.said) tree_of.derived derived
    (tree_of.names ∙ ap (names_with text []) same ∙ sym derived.names) in
    let is : IsAccepted program has.table has.bodies = passes has_rows text are.tokens are.end program has.table has.bodies short are.cut derived has.has_table has.checked in
    has.so ∙ names_alike program has.table has.bodies (written text are.tokens are.end program short are.cut derived) is ∙ ap names_in (sym one)

pub field_names_mean : OneCutting → FieldNamesMean
field_names_mean cutting text fields tree are tree_of =
    let has = are.has_names in
    let same = (cutting.tokens text tree_of.tokens are.tokens tree_of.end are.end tree_of.cut are.cut).0 in
    let one : tree ≡ has.program =
    tree_once text are.tokens tree has.program tree_of.list tree.names refl (subst (λ ts. MeanAll tree.names text ts tree_of.list) same tree_of.said) tree_of.derived has.derived
    (tree_of.names ∙ ap (names_with text []) same ∙ sym has.derived.names) in
    has.named_so ∙ ap field_names_in (sym one)
