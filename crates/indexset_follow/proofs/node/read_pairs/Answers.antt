use Rattle.std.proofs.Common.{rules, ◌≡◌, ◌∙◌, ◌∷◌, ◌++◌, [], None, Some, ap, sym}
use Rattle.std.specs.Option.{option_map}
use Rattle.indexset_follow.specs.NodeLine.{pairs_of, words}
use Rattle.indexset_wire.specs.Parts.{cut_at}
use Rattle.indexset_bench.specs.Texts.{pair_of}
use Rattle.indexset_follow.proofs.NodeLines.{cut_words, pairs_first, pairs_last, pairs_more, pairs_none, uncut_words}
use Rattle.indexset_follow.proofs.node.read_pairs.Goals as goal

pub returns-in-None-clause-pairs : goal.returns-in-None-clause-pairs
returns-in-None-clause-pairs g c =
    let word = c.in-Some.word.now in
    let rest = c.in-Some.rest.now in
    let cut : cut_at 32 c.loop-word.left.now ≡ Some (word, rest) = search rules in
    let none : pair_of g.T.Item.texts word ≡ None = search rules in
    sym
    (c.loop-word.invariant
    ∙ ap (option_map (λ ps. c.loop-word.items.items ++ ps))
    (ap (pairs_of g.T.Item.texts) (cut_words c.loop-word.left.now word rest cut)
    ∙ pairs_none g.T.Item.texts word (words rest) none))

pub loop-word-preserved : goal.loop-word-preserved
loop-word-preserved g c =
    let word = c.in-Some.word.now in
    let rest = c.in-Some.rest.now in
    let items = c.loop-word.items.items in
    let item = c.in-Some-2.item in
    let cut : cut_at 32 c.loop-word.left.now ≡ Some (word, rest) = search rules in
    let read : pair_of g.T.Item.texts word ≡ Some item = search rules in
    let kept : c.keep.new.items.items ≡ items ++ item ∷ [] = search rules in
    c.loop-word.invariant ∙ ap (option_map (λ ps. items ++ ps)) (ap (pairs_of g.T.Item.texts) (cut_words c.loop-word.left.now word rest cut) ∙ pairs_first g.T.Item.texts word (words rest) item read)
    ∙ pairs_more items item (pairs_of g.T.Item.texts (words rest)) ∙ ap (λ l. option_map (λ ps. l ++ ps) (pairs_of g.T.Item.texts (words rest))) (sym kept)

pub returns-in_ok-keep-in-Some-3-clause-pairs : goal.returns-in_ok-keep-in-Some-3-clause-pairs
returns-in_ok-keep-in-Some-3-clause-pairs g c =
    let left = c.loop-word.left.now in
    let items = c.loop-word.items.items in
    let item = c.in-Some-3.item in
    let uncut : cut_at 32 left ≡ None = search rules in
    let read : pair_of g.T.Item.texts left ≡ Some item = search rules in
    let kept : c.keep-in-Some-3.new.items.items ≡ items ++ item ∷ [] = search rules in
    ap Some kept ∙ sym (c.loop-word.invariant ∙ ap (option_map (λ ps. items ++ ps)) (ap (pairs_of g.T.Item.texts) (uncut_words left uncut) ∙ pairs_last g.T.Item.texts left item read))

pub returns-in-None-2-clause-pairs : goal.returns-in-None-2-clause-pairs
returns-in-None-2-clause-pairs g c =
    let left = c.loop-word.left.now in
    let uncut : cut_at 32 left ≡ None = search rules in
    let none : pair_of g.T.Item.texts left ≡ None = search rules in
    sym (c.loop-word.invariant ∙ ap (option_map (λ ps. c.loop-word.items.items ++ ps)) (ap (pairs_of g.T.Item.texts) (uncut_words left uncut) ∙ pairs_none g.T.Item.texts left [] none))
