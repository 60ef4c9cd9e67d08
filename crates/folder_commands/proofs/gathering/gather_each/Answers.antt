-- One part after another is read and taken, or passed over.
use Rattle.std.specs.Prelude.{◌+◌, ℕ, List, [], ◌≡◌, true, false, map, take, filter, string_bytes}
use Rattle.std.proofs.Common.{sym, ap, subst, ◌∙◌, arith}
use Rattle.folder_model.specs.Call.{Call}
use Rattle.folder_model.specs.Turn.{listing_of}
use Rattle.folder_protocol.specs.Goes.{GoesInTurn}
use Rattle.folder_protocol.specs.Linking.{GoesPlainly}
use Rattle.folder_protocol.specs.Sweeping.{RemovesOnly}
use Rattle.folder_protocol.proofs.Lines.{joins}
use Rattle.folder_protocol.proofs.Linking.{plain_more}
use Rattle.folder_protocol.proofs.Removals.{removes_more}
use Rattle.folder_protocol.proofs.TakeLines.{untaken_later}
use Rattle.folder_parts.specs.Covers.{folder_parts}
use Rattle.folder_parts.specs.declared.fault.PartRefusal.{PartRefusal}
use Rattle.folder_commands.specs.ReadParts.{AreReadSoFar, More, ReadsOne, StopsReading}
use Rattle.folder_commands.specs.Wanted.{is_wanted}
use Rattle.folder_commands.proofs.ReadParts.{if_refused, read_next, read_over, read_stops}
use Rattle.folder_commands.proofs.gathering.gather_each.Goals as goal
use Rattle.folder_commands.proofs.gathering.gather_each.Goals.{then-is_wanted+in-Ok, else-is_wanted}

pub returns-in-Err-clause-in_turn : goal.returns-in-Err-clause-in_turn
returns-in-Err-clause-in_turn g c = joins folder_parts _ _ _ c.loop-index.invariant.goes c.gather_one.ensures.in_turn

pub returns-in-Err-clause-refused : goal.returns-in-Err-clause-refused
returns-in-Err-clause-refused g c = λ begun.
    let p = is_wanted (map string_bytes c.args.passed.now) in
    let before = g.F.Folder.history c.args.folder.now in
    let mid = g.F.Folder.history c.loop-index.folder in
    let after = g.F.Folder.history c.gather_one.new.folder in
    let name = c.as_str-name.result.now in
    let way = c.args.way.now in
    let made = g.G.Gathers.made_of way c.loop-index.made in
    let stops = λ (r : PartRefusal). g.G.Gathers.stops way r.fault in
    let goes = c.loop-index.invariant.goes in
    let passes : p (string_bytes c.index-listed-index.result) ≡ true = ap p (sym c.as_str-name.ensures.value) ∙ sym c.is_wanted.ensures ∙ c.if-is_wanted.true in
    if_refused c.in-Err.fault (λ (r : PartRefusal). (r.part ≡ c.loop-index.count) × ReadsOne name (More made (stops r)) mid after)
    (λ (r : PartRefusal). StopsReading (stops r) r (filter p (map string_bytes c.args.listed.now)) before after)
    (λ r so.
    read_stops string_bytes p c.args.listed.now c.loop-index.index c.index-listed-index.result c.loop-index-test.true c.index-listed-index.is made (stops r) c.loop-index.count name before mid after
    c.as_str-name.ensures.value passes (c.loop-index.invariant.read begun) (goes.0, goes.1) so.1 r so.0)
    c.in-Err.ensures.refused

pub returns-in-Err-clause-cause : goal.returns-in-Err-clause-cause
returns-in-Err-clause-cause g c =
    let goes = c.loop-index.invariant.goes in
    untaken_later c.in-Err.fault _ _ _ (goes.0, goes.1) c.in-Err.ensures.cause

pub loop-index-preserved : goal.loop-index-preserved
loop-index-preserved g c =
    let history = g.F.Folder.history in
    let p = is_wanted (map string_bytes c.args.passed.now) in
    let before = history c.args.folder.now in
    let mid = history c.loop-index.folder in
    let now = history c.if-is_wanted.folder in
    let made_of = g.G.Gathers.made_of c.args.way.now in
    let had = made_of c.loop-index.made in
    let so = c.loop-index.invariant in
    let name : c.as_str-name.result.now ≡ string_bytes c.index-listed-index.result = c.as_str-name.ensures.value in
    elim c.if-is_wanted.branch [
      | then-is_wanted+in-Ok w ↦
          let after = history w.gather_one.new.folder in
          let still : now ≡ after = ap history w.folder-is in
          let passes : p (string_bytes c.index-listed-index.result) ≡ true = ap p (sym name) ∙ sym c.is_wanted.ensures ∙ w.if-is_wanted.true in
          record {
            plain = subst (λ (h : List Call). GoesPlainly before h) (sym still) (plain_more before mid after so.plain w.gather_one.ensures.plain);
            unremoved = subst (λ (h : List Call). RemovesOnly (λ (name : List ℕ). ⊥) before h) (sym still) (removes_more (λ (name : List ℕ). ⊥) before mid after so.unremoved w.gather_one.ensures.unremoved);
            goes = subst (λ (h : List Call). GoesInTurn folder_parts before h) (sym still) (joins folder_parts before mid after so.goes w.gather_one.ensures.in_turn);
            listing = ap listing_of still ∙ w.gather_one.ensures.listing ∙ so.listing;
            few = let few = so.few in let more = w.count-is in omega (arith, few, more);
            read = λ begun.
                subst (λ m. AreReadSoFar (made_of m) c.if-is_wanted.count (filter p (take (c.loop-index.index + 1) (map string_bytes c.args.listed.now))) before now) (sym w.made-is)
                (read_next string_bytes p c.args.listed.now c.loop-index.index c.index-listed-index.result c.loop-index-test.true c.index-listed-index.is had (made_of w.in-Ok.next) c.loop-index.count c.as_str-name.result.now before mid after
                name passes (so.read begun) (so.goes.0, so.goes.1) w.in-Ok.ensures.one c.if-is_wanted.count now w.count-is still);
          }
      | else-is_wanted w ↦
          let still : now ≡ mid = ap history w.folder-is in
          let fails : p (string_bytes c.index-listed-index.result) ≡ false = ap p (sym name) ∙ sym c.is_wanted.ensures ∙ w.if-is_wanted.false in
          record {
            plain = subst (λ (h : List Call). GoesPlainly before h) (sym still) so.plain;
            unremoved = subst (λ (h : List Call). RemovesOnly (λ (name : List ℕ). ⊥) before h) (sym still) so.unremoved;
            goes = subst (λ (h : List Call). GoesInTurn folder_parts before h) (sym still) so.goes;
            listing = ap listing_of still ∙ so.listing;
            few = let few = so.few in let same = w.count-is in omega (arith, few, same);
            read = λ begun.
                subst (λ m. AreReadSoFar (made_of m) c.if-is_wanted.count (filter p (take (c.loop-index.index + 1) (map string_bytes c.args.listed.now))) before now) (sym w.made-is)
                (read_over string_bytes p c.args.listed.now c.loop-index.index c.index-listed-index.result c.loop-index-test.true c.index-listed-index.is had c.loop-index.count c.if-is_wanted.count before mid now
                fails w.count-is still (so.read begun));
          }
    ]

pub returns-in-Err-clause-plain : goal.returns-in-Err-clause-plain
returns-in-Err-clause-plain g c = plain_more _ _ _ c.loop-index.invariant.plain c.gather_one.ensures.plain

pub returns-in-Err-clause-unremoved : goal.returns-in-Err-clause-unremoved
returns-in-Err-clause-unremoved g c = removes_more (λ (name : List ℕ). ⊥) _ _ _ c.loop-index.invariant.unremoved c.gather_one.ensures.unremoved
