use Rattle.std.proofs.Common.{Some, ◌≡◌, ◌∙◌, ◌++◌, ap, subst, sym}
use Rattle.std.proofs.lemmas.Slice.Eq.{bytes_eq-Decides}
use Rattle.percent_encoding.specs.Percent.{percent_decode, percent_encode}
use Rattle.indexset_text.specs.Names.{AreBytes, name_text}
use Rattle.indexset_text.specs.Names.Laws.{others_escaped, read_none, read_some}
use Rattle.indexset_text.proofs.name.NameItem.read.Goals as goal

pub returns-then-eq-clause-value : goal.returns-then-eq-clause-value
returns-then-eq-clause-value c =
    let decoded = c.percent_decode.ensures.bytes in
    let name : c.append_to.new.out.items ≡ percent_decode c.args.text.now =
    c.in_ok-append_to.ensures.ok
    ∙ ap (λ l. l ++ percent_decode c.percent_decode.result.bytes.now) c.new-bytes.ensures.items ∙ decoded in
    let spelled =
    c.as_bytes.ensures.value ∙ c.in_ok-append_to-2.ensures.ok
    ∙ ap (λ l. l ++ percent_encode c.percent_encode.result.ascii_set c.percent_encode.result.bytes.now)
    c.new-spelled.ensures.bytes
    ∙ c.percent_encode.ensures.text ∙ others_escaped c.escaped.result c.escaped.ensures c.as_slice.result.now
    ∙ ap name_text c.as_slice.ensures.value in
    let small : AreBytes c.append_to.new.out.items = subst AreBytes (decoded ∙ sym name) c.percent_decode.ensures.small in
    ap Some c.from_vec-text.ensures
    ∙ read_some c.args.text.now c.append_to.new.out.items c.as_bytes.result.now name spelled small
    ((bytes_eq-Decides c.args.text.now c.as_bytes.result.now).0 (sym c.if-eq.ensures))

pub returns-else-eq-clause-value : goal.returns-else-eq-clause-value
returns-else-eq-clause-value c =
    let name : c.append_to.new.out.items ≡ percent_decode c.args.text.now =
    c.in_ok-append_to.ensures.ok
    ∙ ap (λ l. l ++ percent_decode c.percent_decode.result.bytes.now) c.new-bytes.ensures.items
    ∙ c.percent_decode.ensures.bytes in
    let spelled =
    c.as_bytes.ensures.value ∙ c.in_ok-append_to-2.ensures.ok
    ∙ ap (λ l. l ++ percent_encode c.percent_encode.result.ascii_set c.percent_encode.result.bytes.now)
    c.new-spelled.ensures.bytes
    ∙ c.percent_encode.ensures.text ∙ others_escaped c.escaped.result c.escaped.ensures c.as_slice.result.now
    ∙ ap name_text c.as_slice.ensures.value in
    read_none c.args.text.now c.append_to.new.out.items c.as_bytes.result.now name spelled
    (λ same. let hit = (bytes_eq-Decides c.args.text.now c.as_bytes.result.now).1 same in
    let miss = c.if-eq.ensures in cc)
