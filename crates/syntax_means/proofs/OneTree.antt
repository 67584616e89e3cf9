-- A text has one tree.
use Rattle.std.proofs.Common.{◌≡◌, ℕ, List, sym, ap, ◌∙◌, subst}
use Rattle.syntax_tokens.specs.Cutting.{OneCutting}
use Rattle.syntax_tokens.specs.Says.{MeanAll, distinct_names}
use Rattle.syntax_tree.specs.declared.class.Class.{Class}
use Rattle.syntax_tree.specs.declared.class.Program.{Program}
use Rattle.syntax_grammar.specs.Classes.{DerivesProgram}
use Rattle.syntax_grammar.specs.OneTree.{OneTree}
use Rattle.syntax_grammar.proofs.once.OnceText.{terminals_once}
use Rattle.syntax_means.specs.Accepts.{HasTree}

pub one_tree_of : OneCutting → OneTree → (text : List ℕ) (first second : Program) → HasTree text first → HasTree text second → first ≡ second
one_tree_of cutting trees text first second h k =
    let tokens = (cutting.tokens text h.tokens k.tokens h.end k.end h.cut k.cut).0 in
    let names : first.names ≡ second.names = h.names ∙ ap (distinct_names text) tokens ∙ sym k.names in
    let here : MeanAll (distinct_names text k.tokens) text k.tokens h.list =
    subst (λ ns. MeanAll ns text k.tokens h.list) (names ∙ k.names) (subst (λ ts. MeanAll first.names text ts h.list) tokens h.said) in
    let there : MeanAll (distinct_names text k.tokens) text k.tokens k.list = subst (λ ns. MeanAll ns text k.tokens k.list) k.names k.said in
    let list : h.list ≡ k.list = terminals_once text k.tokens h.list k.list here there in
    let classes : first.classes ≡ second.classes =
    trees k.list first.classes second.classes (subst (λ l. DerivesProgram l first.classes) list h.derived) k.derived in
    ap (λ (ns : List (List ℕ)). record { classes = first.classes; names = ns }) names ∙ ap (λ (cs : List Class). record { classes = cs; names = second.names }) classes
