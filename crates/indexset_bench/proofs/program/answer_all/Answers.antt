use Rattle.std.proofs.Common.{◌≡◌, [], ap, ◌∙◌}
use Rattle.indexset_core.specs.Nodes.{concat}
use Rattle.indexset_spine.specs.NodeList.{items}
use Rattle.indexset_lines.proofs.CallerLemmas.{nothing_read, text_of-uncut, texts_alike}
use Rattle.indexset_bench.specs.Text.{no_stores, reply_line, stores, stores_after, text_of}
use Rattle.std.proofs.lemmas.Result.{on_ok_weaker}
use Rattle.indexset_bench.proofs.program.answer_all.Goals as goal

pub returns-in_err-set-clause-memory_refused : goal.returns-in_err-set-clause-memory_refused
returns-in_err-set-clause-memory_refused g c refused = nothing_read _ _ _ _ _

pub returns-clause-given_answered : goal.returns-clause-given_answered
returns-clause-given_answered g c =
    let pairs = c.with_maximum_node_size-pairs in
    let empty = ap (λ ns. concat ns) c.in_ok-set.ensures.empty in
    let none : stores (items c.in_ok-set.set) pairs.result ≡ no_stores = ap (λ s. stores s pairs.result) empty ∙ ap (λ t. stores [] t) pairs.ensures in
    on_ok_weaker c.answer_lines.result
    (texts_alike _ text_of (text_of-uncut reply_line stores_after no_stores) _ _ _ _)
    (rw none at c.answer_lines.ensures.given_answered)

pub returns-clause-numbers_refused : goal.returns-clause-numbers_refused
returns-clause-numbers_refused g c refused =
    let pairs = c.with_maximum_node_size-pairs in
    let empty = ap (λ ns. concat ns) c.in_ok-set.ensures.empty in
    let none : stores (items c.in_ok-set.set) pairs.result ≡ no_stores = ap (λ s. stores s pairs.result) empty ∙ ap (λ t. stores [] t) pairs.ensures in
    rw none at c.answer_lines.ensures.numbers_refused refused
