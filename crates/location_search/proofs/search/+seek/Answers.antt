use Rattle.std.proofs.Common.{◌≡◌, List, Some, None, true, false, refl, option_and_then, slice_get, sym, ap, ap₂, ◌∙◌, subst}
use Rattle.ngx_pattern.specs.Pattern.{Pattern as SetPattern}
use Rattle.pattern_search.specs.site_views.Pattern.{Span}
use Rattle.pattern_search.specs.site_views.Search.{decided}
use Rattle.location_search.specs.Found.{AreSpans, HasSpans, IsFirstMatch, level_at, is_firm_at, remembering, goes_on}
use Rattle.location_search.specs.Nodes.{IsTreeAt}
use Rattle.location_search.specs.declared.search.FoundLocation.{FoundLocation}
use Rattle.location_search.specs.declared.search.Sought.TheVariants.{Ends, Remembers}
use Rattle.location_search.proofs.Seeks.{searched}
use Rattle.location_search.proofs.Leaves.{no-match, no-number}
use Rattle.location_search.proofs.Outcomes.{view, kept_of}
use Rattle.location_search.proofs.Returns.{nowhere, has-node, exact-returns, exact-rests, prefix-returns, prefix-rests, regex-rests, regex-returns}
use Rattle.location_search.proofs.Sound.{remembering-sound, rests-sound, groups-sound, some-sound}
use Rattle.location_search.proofs.search.+seek.Goals as goal

pub returns-in_default-clause-sought : goal.returns-in_default-clause-sought
returns-in_default-clause-sought t c = λ site tree at.
    nowhere c.args.patterns.now site c.args.path.now c.args.nodes.now c.args.spans.now tree (subst (λ n. IsTreeAt c.args.nodes.now n tree) c.in_default.is at)

pub returns-in_default-node_at-clause-sought : goal.returns-in_default-node_at-clause-sought
returns-in_default-node_at-clause-sought t c = λ site tree at.
    absurd (has-node c.args.patterns.now site c.args.path.now c.args.nodes.now c.in-Some.number tree
    (subst (λ n. IsTreeAt c.args.nodes.now n tree) c.in-Some.is at) (sym c.in_default-node_at.ensures))

pub returns-then-is_leaf-clause-sought : goal.returns-then-is_leaf-clause-sought
returns-then-is_leaf-clause-sought t c = λ site tree at.
    let ns = c.args.nodes.now in
    let ps = c.args.patterns.now in
    let path = c.args.path.now in
    let spans = c.args.spans.now in
    let number = c.in-Some.number in
    let here = subst (λ n. IsTreeAt ns n tree) c.in-Some.is at in
    let node = c.in-Some-node_at.node.now in
    let is : slice_get ns number ≡ Some node = sym c.in-Some-node_at.ensures in
    let exact = no-number node.list.exact (c.is_leaf.ensures.exact c.if-is_leaf.true) path in
    let prefixes = no-number node.list.prefixes (c.is_leaf.ensures.prefixes c.if-is_leaf.true) in
    let first : IsFirstMatch ps path number node.list.patterns.items None spans
    = subst (λ items. IsFirstMatch ps path number items None spans) (sym (c.is_leaf.ensures.patterns c.if-is_leaf.true)) (no-match ps path number spans) in
    regex-rests ps site path ns number tree here node is None spans first (Remembers None) false refl refl
    ∙ prefix-rests ps site path ns number tree here node is None None (λ text fits. prefixes text) refl spans (Remembers None)
    (nowhere ps site path ns spans) (Remembers None) refl refl
    ∙ exact-rests ps site path ns number tree here node is (ap (option_and_then (level_at ns)) exact)

pub returns-in-Some-level_of-clause-sought : goal.returns-in-Some-level_of-clause-sought
returns-in-Some-level_of-clause-sought t c = λ site tree at.
    let ns = c.args.nodes.now in
    exact-returns c.args.patterns.now site c.args.path.now ns c.in-Some.number tree (subst (λ n. IsTreeAt ns n tree) c.in-Some.is at)
    c.in-Some-node_at.node.now (sym c.in-Some-node_at.ensures) c.in-Some-level_of.level c.args.spans.now
    (ap (option_and_then (level_at ns)) (sym c.number.ensures) ∙ sym c.level_of.ensures ∙ c.in-Some-level_of.is)

pub returns-then-not-goes_on-clause-sought : goal.returns-then-not-goes_on-clause-sought
returns-then-not-goes_on-clause-sought t c = λ site tree at.
    let ns = c.args.nodes.now in
    let ps = c.args.patterns.now in
    let path = c.args.path.now in
    let here = subst (λ n. IsTreeAt ns n tree) c.in-Some.is at in
    let node = c.in-Some-node_at.node.now in
    let is : slice_get ns c.in-Some.number ≡ Some node = sym c.in-Some-node_at.ensures in
    let prefix = c.prefix_in-prefix.result in
    let found = c.prefix_in-prefix.ensures.longest in
    let s = c.remembering-remembered.result in
    let s_is : s ≡ remembering (option_and_then (level_at ns) prefix) c.seek-inner.result
    = c.remembering-remembered.ensures ∙ ap (λ l. remembering l c.seek-inner.result) c.level_of-2.ensures in
    let stops : goes_on s (is_firm_at ns prefix) ≡ false
    = ap (goes_on s) (sym c.is_firm.ensures) ∙ sym c.goes_on.ensures ∙ c.if-not-goes_on.true in
    prefix-returns ps site path ns c.in-Some.number tree here node is found.0 prefix found.1 found.2 c.seek-inner.new.spans c.seek-inner.result
    (c.seek-inner.ensures.sought site) s s_is stops
    ∙ exact-rests ps site path ns c.in-Some.number tree here node is
    (ap (option_and_then (level_at ns)) (sym c.number.ensures) ∙ sym c.level_of.ensures ∙ c.in_default-level_of.is)

pub returns-in_default-level_of-2-clause-sought : goal.returns-in_default-level_of-2-clause-sought
returns-in_default-level_of-2-clause-sought t c = λ site tree at.
    let ns = c.args.nodes.now in
    let ps = c.args.patterns.now in
    let path = c.args.path.now in
    let here = subst (λ n. IsTreeAt ns n tree) c.in-Some.is at in
    let node = c.in-Some-node_at.node.now in
    let is : slice_get ns c.in-Some.number ≡ Some node = sym c.in-Some-node_at.ensures in
    let prefix = c.prefix_in-prefix.result in
    let found = c.prefix_in-prefix.ensures.longest in
    let s = c.remembering-remembered.result in
    let s_is : s ≡ remembering (option_and_then (level_at ns) prefix) c.seek-inner.result
    = c.remembering-remembered.ensures ∙ ap (λ l. remembering l c.seek-inner.result) c.level_of-2.ensures in
    let on : goes_on s (is_firm_at ns prefix) ≡ true
    = ap (goes_on s) (sym c.is_firm.ensures) ∙ sym c.goes_on.ensures ∙ c.if-not-goes_on.false in
    let first : IsFirstMatch ps path c.in-Some.number node.list.patterns.items c.matching_in-matching.result c.matching_in-matching.new.spans
    = subst (λ qs. IsFirstMatch qs path c.in-Some.number node.list.patterns.items c.matching_in-matching.result c.matching_in-matching.new.spans)
    c.seek-inner.ensures.kept c.matching_in-matching.ensures.first in
    regex-rests ps site path ns c.in-Some.number tree here node is c.matching_in-matching.result c.matching_in-matching.new.spans first s (is_firm_at ns prefix) on
    (sym c.level_of-3.ensures ∙ c.in_default-level_of-2.is)
    ∙ prefix-rests ps site path ns c.in-Some.number tree here node is found.0 prefix found.1 found.2 c.seek-inner.new.spans c.seek-inner.result
    (c.seek-inner.ensures.sought site) s s_is on
    ∙ exact-rests ps site path ns c.in-Some.number tree here node is
    (ap (option_and_then (level_at ns)) (sym c.number.ensures) ∙ sym c.level_of.ensures ∙ c.in_default-level_of.is)

pub returns-clause-sought : goal.returns-clause-sought
returns-clause-sought t c = λ site tree at.
    let ns = c.args.nodes.now in
    let ps = c.args.patterns.now in
    let path = c.args.path.now in
    let here = subst (λ n. IsTreeAt ns n tree) c.in-Some.is at in
    let node = c.in-Some-node_at.node.now in
    let is : slice_get ns c.in-Some.number ≡ Some node = sym c.in-Some-node_at.ensures in
    let prefix = c.prefix_in-prefix.result in
    let found = c.prefix_in-prefix.ensures.longest in
    let s = c.remembering-remembered.result in
    let s_is : s ≡ remembering (option_and_then (level_at ns) prefix) c.seek-inner.result
    = c.remembering-remembered.ensures ∙ ap (λ l. remembering l c.seek-inner.result) c.level_of-2.ensures in
    let on : goes_on s (is_firm_at ns prefix) ≡ true
    = ap (goes_on s) (sym c.is_firm.ensures) ∙ sym c.goes_on.ensures ∙ c.if-not-goes_on.false in
    let matching = c.matching_in-matching.result in
    let spans = c.matching_in-matching.new.spans in
    let first : IsFirstMatch ps path c.in-Some.number node.list.patterns.items matching spans
    = subst (λ qs. IsFirstMatch qs path c.in-Some.number node.list.patterns.items matching spans) c.seek-inner.ensures.kept c.matching_in-matching.ensures.first in
    let own = c.in-Some-level_of-2.level in
    let inner = c.seek-inner-2.result in
    let inner_spans = c.seek-inner-2.new.spans in
    let same : c.matching_in-matching.new.patterns ≡ ps = c.matching_in-matching.ensures.kept ∙ c.seek-inner.ensures.kept in
    ap₂ (λ (g : List Span) (f : FoundLocation). view ps site path ns g (Ends f)) c.with_groups.ensures.spans c.with_groups.ensures.found
    ∙ regex-returns ps site path ns c.in-Some.number tree here node is matching spans first own
    (sym c.level_of-3.ensures ∙ c.in-Some-level_of-2.is) inner_spans inner
    (λ u h. subst (λ (qs : List SetPattern). view qs site path ns inner_spans inner ≡ decided (searched qs site path ns u)) same (c.seek-inner-2.ensures.sought site u h))
    (kept_of ps site path ns s)
    ∙ prefix-rests ps site path ns c.in-Some.number tree here node is found.0 prefix found.1 found.2 c.seek-inner.new.spans c.seek-inner.result
    (c.seek-inner.ensures.sought site) s s_is on
    ∙ exact-rests ps site path ns c.in-Some.number tree here node is
    (ap (option_and_then (level_at ns)) (sym c.number.ensures) ∙ sym c.level_of.ensures ∙ c.in_default-level_of.is)

pub returns-then-not-goes_on-clause-sound : goal.returns-then-not-goes_on-clause-sound
returns-then-not-goes_on-clause-sound t c =
    subst (λ s. HasSpans c.args.path.now s c.seek-inner.new.spans) (sym c.remembering-remembered.ensures)
    (remembering-sound c.args.path.now c.seek-inner.new.spans c.level_of-2.result c.seek-inner.result c.seek-inner.ensures.sound)

pub returns-in_default-level_of-2-clause-sound : goal.returns-in_default-level_of-2-clause-sound
returns-in_default-level_of-2-clause-sound t c =
    rests-sound c.args.path.now c.matching_in-matching.new.spans c.remembering-remembered.result c.is_firm.result (sym c.goes_on.ensures ∙ c.if-not-goes_on.false)

pub returns-clause-sound : goal.returns-clause-sound
returns-clause-sound t c = λ h.
    subst (AreSpans c.args.path.now) (sym c.with_groups.ensures.spans)
    (groups-sound c.args.path.now c.in-Some-level_of-2.level c.seek-inner-2.result c.matching_in-matching.new.spans c.seek-inner-2.new.spans
    (some-sound (level_at c.args.nodes.now) (AreSpans c.args.path.now c.matching_in-matching.new.spans) c.matching_in-matching.result c.in-Some-level_of-2.level
    (sym c.level_of-3.ensures ∙ c.in-Some-level_of-2.is) c.matching_in-matching.ensures.sound)
    c.seek-inner-2.ensures.sound)
