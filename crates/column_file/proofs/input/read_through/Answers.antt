use Rattle.std.proofs.Common.{◌≡◌, ◌∙◌, ◌+◌, ◌<◌, List, ℕ, length, take, refl, sym, ap, subst, inr, arith}
use Rattle.std.specs.Io.KnownBytes.{Consumes}
use Rattle.std.proofs.lemmas.List.{with_items_is}
use Rattle.table_model.specs.declared.counted.TheConstants.{READ_LIMIT}
use Rattle.column_file.proofs.Inputs.{consumes_none, consumes_no_more, consumes_chunk, gave_more, is_within}
use Rattle.column_file.proofs.input.read_through.Goals as goal

pub loop-turn-init : goal.loop-turn-init
loop-turn-init g c =
    let P : List ℕ → Type 0 = λ xs. Consumes (g.R.Read.remaining c.args.reader.now.0) (g.R.Read.remaining c.args.reader.now.0) xs in
    let none : length c.new-input.result.items ≡ 0 = ap length c.new-input.ensures.items in
    record {
      read = subst P (sym c.new-input.ensures.items) (consumes_none (g.R.Read.remaining c.args.reader.now.0));
      some = omega arith;
      limit = omega arith;
      room = c.requires.some;
      most = c.requires.limit;
      kept = refl;
    }

pub returns-then-count-eq0-clause-bytes : goal.returns-then-count-eq0-clause-bytes
returns-then-count-eq0-clause-bytes g c =
    consumes_no_more (g.R.Read.remaining c.args.reader.now.0) (g.R.Read.remaining c.loop-turn.reader.0) (g.R.Read.remaining c.read.new.self.0) c.loop-turn.input.items c.read.new.buffer c.in-Ok.count
    c.loop-turn.invariant.read c.in-Ok.ensures.bytes.0 c.if-count-eq0.true

pub returns-then-count-eq0-clause-reads : goal.returns-then-count-eq0-clause-reads
returns-then-count-eq0-clause-reads g c =
    let read = returns-then-count-eq0-clause-bytes g c in
    let room : 0 < length c.read.new.buffer = omega (arith, c.as_mut_slice.ensures.len, c.loop-turn.invariant.room) in
    let end = c.in-Ok.ensures.bytes.1 c.if-count-eq0.true room in
    record {
      end = end;
      within = is_within (g.R.Read.remaining c.args.reader.now.0) (g.R.Read.remaining c.read.new.self.0) c.loop-turn.input.items read end c.loop-turn.invariant.limit;
      kept = c.in-Ok.ensures.failures ∙ c.loop-turn.invariant.kept;
    }

pub returns-then-len-gt-READ_LIMIT-clause-reads : goal.returns-then-len-gt-READ_LIMIT-clause-reads
returns-then-len-gt-READ_LIMIT-clause-reads g c =
    let same : length c.read.new.buffer ≡ c.loop-turn.buffer.len = omega (arith, c.as_mut_slice.ensures.len) in
    let read = consumes_chunk (g.R.Read.remaining c.args.reader.now.0) (g.R.Read.remaining c.loop-turn.reader.0) (g.R.Read.remaining c.read.new.self.0) c.loop-turn.input.items c.read.new.buffer c.split_at.result.0.now c.extend_from_slice.new.self.items c.in-Ok.count
    c.loop-turn.invariant.read c.in-Ok.ensures.bytes.0 (c.split_at.ensures.front ∙ ap (take c.in-Ok.count) (c.deref.ensures.value ∙ with_items_is c.loop-turn.buffer c.read.new.buffer same)) c.in_ok-extend_from_slice.ensures.items in
    let past : READ_LIMIT < length c.extend_from_slice.new.self.items = omega arith in
    record {
      listed = refl;
      whole = λ not_memory not_fault. absurd (not_fault refl);
      counts = inr (gave_more (g.R.Read.remaining c.args.reader.now.0) (g.R.Read.remaining c.read.new.self.0) c.extend_from_slice.new.self.items read past, c.in-Ok.ensures.failures ∙ c.loop-turn.invariant.kept);
    }

pub loop-turn-preserved : goal.loop-turn-preserved
loop-turn-preserved g c =
    let same : length c.read.new.buffer ≡ c.loop-turn.buffer.len = omega (arith, c.as_mut_slice.ensures.len) in
    let longer : length c.extend_from_slice.new.self.items ≡ length c.loop-turn.input.items + length c.split_at.result.0.now = omega (arith, c.in_ok-extend_from_slice.ensures.len) in
    record {
      read = consumes_chunk (g.R.Read.remaining c.args.reader.now.0) (g.R.Read.remaining c.loop-turn.reader.0) (g.R.Read.remaining c.read.new.self.0) c.loop-turn.input.items c.read.new.buffer c.split_at.result.0.now c.extend_from_slice.new.self.items c.in-Ok.count
          c.loop-turn.invariant.read c.in-Ok.ensures.bytes.0 (c.split_at.ensures.front ∙ ap (take c.in-Ok.count) (c.deref.ensures.value ∙ with_items_is c.loop-turn.buffer c.read.new.buffer same)) c.in_ok-extend_from_slice.ensures.items;
      some = omega (arith, c.loop-turn.invariant.some, c.split_at.ensures.front_len, c.if-count-eq0.false, longer);
      limit = omega arith;
      room = c.in_ok-buffer.ensures.some;
      most = c.in_ok-buffer.ensures.limit;
      kept = c.in-Ok.ensures.failures ∙ c.loop-turn.invariant.kept;
    }
