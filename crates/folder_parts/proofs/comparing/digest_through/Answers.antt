-- At the end of the reader the hasher holds all that it had.
use Rattle.std.proofs.Common.{◌≡◌, ◌∙◌, ◌+◌, ◌<◌, ◌++◌, List, ℕ, Option, length, take, refl, sym, ap, subst, inr, arith}
use Rattle.std.specs.Io.KnownBytes.{Consumes}
use Rattle.std.proofs.lemmas.List.{with_items_is, length-append}
use Rattle.sha2.specs.Sha512.{sha512}
use Rattle.table_model.specs.declared.counted.TheConstants.{READ_LIMIT}
use Rattle.column_file.proofs.Inputs.{consumes_no_more, consumes_chunk, gave_more, is_within, whole_input}
use Rattle.folder_parts.proofs.comparing.digest_through.Goals as goal

pub returns-then-count-eq0-clause-digest : goal.returns-then-count-eq0-clause-digest
returns-then-count-eq0-clause-digest g c input known =
    let came : List ℕ = c.loop-turn.invariant.came in
    let read = consumes_no_more (g.R.Read.remaining c.args.reader.now.0) (g.R.Read.remaining c.loop-turn.reader.0) (g.R.Read.remaining c.read.new.self.0) came c.read.new.buffer c.in-Ok.count c.loop-turn.invariant.read c.in-Ok.ensures.bytes.0 c.if-count-eq0.true in
    let room : 0 < length c.read.new.buffer = omega (arith, c.as_mut_slice.ensures.len, c.loop-turn.invariant.room) in
    let end = c.in-Ok.ensures.bytes.1 c.if-count-eq0.true room in
    let P : Option (List ℕ) → Type 0 = λ known. Consumes known (g.R.Read.remaining c.read.new.self.0) came in
    let whole : input ≡ came = whole_input input (g.R.Read.remaining c.read.new.self.0) came (subst P known read) end in
    c.finalize.ensures came c.loop-turn.invariant.holds ∙ ap sha512 (sym whole)

pub returns-then-count-eq0-clause-reads : goal.returns-then-count-eq0-clause-reads
returns-then-count-eq0-clause-reads g c =
    let came : List ℕ = c.loop-turn.invariant.came in
    let read = consumes_no_more (g.R.Read.remaining c.args.reader.now.0) (g.R.Read.remaining c.loop-turn.reader.0) (g.R.Read.remaining c.read.new.self.0) came c.read.new.buffer c.in-Ok.count c.loop-turn.invariant.read c.in-Ok.ensures.bytes.0 c.if-count-eq0.true in
    let room : 0 < length c.read.new.buffer = omega (arith, c.as_mut_slice.ensures.len, c.loop-turn.invariant.room) in
    let end = c.in-Ok.ensures.bytes.1 c.if-count-eq0.true room in
    record {
      end = end;
      within = is_within (g.R.Read.remaining c.args.reader.now.0) (g.R.Read.remaining c.read.new.self.0) came read end (omega (arith, c.loop-turn.invariant.long, c.loop-turn.invariant.limit));
      kept = c.in-Ok.ensures.failures ∙ c.loop-turn.invariant.kept;
    }

pub returns-then-length-gt-READ_LIMIT-clause-reads : goal.returns-then-length-gt-READ_LIMIT-clause-reads
returns-then-length-gt-READ_LIMIT-clause-reads g c =
    let came : List ℕ = c.loop-turn.invariant.came in
    let chunk : List ℕ = c.split_at.result.0.now in
    let same : length c.read.new.buffer ≡ c.loop-turn.buffer.len = omega (arith, c.as_mut_slice.ensures.len) in
    let read = consumes_chunk (g.R.Read.remaining c.args.reader.now.0) (g.R.Read.remaining c.loop-turn.reader.0) (g.R.Read.remaining c.read.new.self.0) came c.read.new.buffer chunk (came ++ chunk) c.in-Ok.count
    c.loop-turn.invariant.read c.in-Ok.ensures.bytes.0 (c.split_at.ensures.front ∙ ap (take c.in-Ok.count) (c.deref.ensures.value ∙ with_items_is c.loop-turn.buffer c.read.new.buffer same)) refl in
    let past : READ_LIMIT < length (came ++ chunk) = omega (arith, length-append came chunk, c.loop-turn.invariant.long, c.split_at.ensures.front_len, c.if-length-gt-READ_LIMIT.true) in
    record {
      listed = refl;
      whole = λ not_memory not_fault. absurd (not_fault refl);
      counts = inr (gave_more (g.R.Read.remaining c.args.reader.now.0) (g.R.Read.remaining c.read.new.self.0) (came ++ chunk) read past, c.in-Ok.ensures.failures ∙ c.loop-turn.invariant.kept);
    }

pub loop-turn-preserved : goal.loop-turn-preserved
loop-turn-preserved g c =
    let came : List ℕ = c.loop-turn.invariant.came in
    let chunk : List ℕ = c.split_at.result.0.now in
    let same : length c.read.new.buffer ≡ c.loop-turn.buffer.len = omega (arith, c.as_mut_slice.ensures.len) in
    let more : length (came ++ chunk) ≡ length came + length chunk = length-append came chunk in
    record {
      came = came ++ chunk;
      read = consumes_chunk (g.R.Read.remaining c.args.reader.now.0) (g.R.Read.remaining c.loop-turn.reader.0) (g.R.Read.remaining c.read.new.self.0) came c.read.new.buffer chunk (came ++ chunk) c.in-Ok.count
          c.loop-turn.invariant.read c.in-Ok.ensures.bytes.0 (c.split_at.ensures.front ∙ ap (take c.in-Ok.count) (c.deref.ensures.value ∙ with_items_is c.loop-turn.buffer c.read.new.buffer same)) refl;
      holds = c.update.ensures came c.loop-turn.invariant.holds;
      long = omega (arith, more, c.loop-turn.invariant.long, c.split_at.ensures.front_len);
      some = omega (arith, c.loop-turn.invariant.some, c.split_at.ensures.front_len, c.if-count-eq0.false);
      limit = omega arith;
      room = omega (arith, c.as_mut_slice.ensures.len, c.loop-turn.invariant.room);
      most = omega (arith, c.as_mut_slice.ensures.len, c.loop-turn.invariant.most);
      kept = c.in-Ok.ensures.failures ∙ c.loop-turn.invariant.kept;
    }
