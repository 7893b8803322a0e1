use Rattle.std.proofs.Common.{◌+◌, ℕ, List, ◌++◌, ◌<◌, ◌≤◌, arith, Option, Some, None, length, take, ◌∙◌, sym}
use Rattle.std.proofs.Common.{ap, subst}
use Rattle.warp_request.specs.declared.body_place.BodyPlace.{BodyPlace}
use Rattle.warp_request.specs.declared.body_place.BodyPlace.TheVariants as Places
use Rattle.warp_request.specs.declared.verdict.Framing.{Framing}
use Rattle.warp_request.specs.BodyReader.{Skips, RepresentsAt, place_in_chunk}
use Rattle.warp_request.proofs.ContentLemmas.{chunk_done, chunk_part}
use Rattle.warp_request.proofs.BodyVerdictLemmas.{chunk_before, content_before, open_before}
use Rattle.warp_request.proofs.body_reader.BodyReader.advance.Goals as goal

chunk_skipped : (framing : Framing) (fed bytes : List ℕ) (sum behind used : ℕ) (rest : Option ℕ)
    → Skips behind (length bytes) used rest
    → RepresentsAt (Places.Chunk behind) sum framing fed
    → RepresentsAt (place_in_chunk rest) sum framing (fed ++ take used bytes)
chunk_skipped framing fed bytes sum behind used None skips stands =
    chunk_done framing fed bytes sum behind used skips.1 skips.0 stands
chunk_skipped framing fed bytes sum behind used (Some rest) skips stands =
    chunk_part framing fed bytes sum behind used rest (omega (arith, skips.0))
    (ap (λ n. rest + n) skips.0 ∙ skips.2) stands

pub returns-in-Chunk-clause-stands : goal.returns-in-Chunk-clause-stands
returns-in-Chunk-clause-stands c framing fed stands =
    let bytes = c.args.bytes.now in
    let skipped = c.skip-skipped-in-Chunk in
    let at_chunk =
    subst (λ (p : BodyPlace). RepresentsAt p c.args.self.now.sum framing fed) c.in-Chunk.is stands in
    subst
    (λ (p : BodyPlace). RepresentsAt p c.args.self.now.sum framing (fed ++ take skipped.result.used bytes))
    (sym c.chunk_place-self.ensures)
    (chunk_skipped framing fed bytes c.args.self.now.sum c.in-Chunk.behind skipped.result.used
    skipped.result.behind skipped.ensures at_chunk)

-- content that is passed over ends with its last byte at the latest
inside : (behind size used n : ℕ) (rest : Option ℕ) → Skips behind size used rest → n < used
    → (n ≤ size) × (n ≤ behind)
inside behind size used n None skips before =
    (omega (arith, skips.0, skips.1, before), omega (arith, skips.0, before))
inside behind size used n (Some left) skips before =
    (omega (arith, skips.0, before), omega (arith, skips.0, skips.2, before))

pub returns-in-Content-clause-first : goal.returns-in-Content-clause-first
returns-in-Content-clause-first c framing fed stands n before =
    let skipped = c.skip-skipped in
    let fits = inside c.in-Content.behind
    (length c.args.bytes.now) skipped.result.used n skipped.result.behind skipped.ensures before in
    content_before framing fed c.args.bytes.now c.args.self.now.sum c.in-Content.behind n fits.0 fits.1
    (subst (λ (p : BodyPlace). RepresentsAt p c.args.self.now.sum framing fed) c.in-Content.is stands)

pub returns-in-Chunk-clause-first : goal.returns-in-Chunk-clause-first
returns-in-Chunk-clause-first c framing fed stands n before =
    let skipped = c.skip-skipped-in-Chunk in
    let fits = inside c.in-Chunk.behind
    (length c.args.bytes.now) skipped.result.used n skipped.result.behind skipped.ensures before in
    chunk_before framing fed c.args.bytes.now c.args.self.now.sum c.in-Chunk.behind n fits.0 fits.1
    (subst (λ (p : BodyPlace). RepresentsAt p c.args.self.now.sum framing fed) c.in-Chunk.is stands)

pub returns-in-LineFeed-clause-first : goal.returns-in-LineFeed-clause-first
returns-in-LineFeed-clause-first c framing fed stands n before =
    open_before c.args.self.now.place c.args.self.now.sum framing fed c.args.bytes.now n
    (omega (arith, before, c.begin_chunk.ensures.used)) stands c.requires.open

pub returns-in-Size-clause-first : goal.returns-in-Size-clause-first
returns-in-Size-clause-first c framing fed stands n before =
    open_before c.args.self.now.place c.args.self.now.sum framing fed c.args.bytes.now n
    (omega (arith, before, c.go_to.ensures.used)) stands c.requires.open

pub returns-in-Extension-clause-first : goal.returns-in-Extension-clause-first
returns-in-Extension-clause-first c framing fed stands n before =
    open_before c.args.self.now.place c.args.self.now.sum framing fed c.args.bytes.now n
    (omega (arith, before, c.go_to-in-Extension.ensures.used)) stands c.requires.open

pub returns-in-ChunkReturn-clause-first : goal.returns-in-ChunkReturn-clause-first
returns-in-ChunkReturn-clause-first c framing fed stands n before =
    open_before c.args.self.now.place c.args.self.now.sum framing fed c.args.bytes.now n
    (omega (arith, before, c.go_to-in-ChunkReturn.ensures.used)) stands c.requires.open

pub returns-in-ChunkLineFeed-clause-first : goal.returns-in-ChunkLineFeed-clause-first
returns-in-ChunkLineFeed-clause-first c framing fed stands n before =
    open_before c.args.self.now.place c.args.self.now.sum framing fed c.args.bytes.now n
    (omega (arith, before, c.go_to-in-ChunkLineFeed.ensures.used)) stands c.requires.open

pub returns-in-Trailers-clause-first : goal.returns-in-Trailers-clause-first
returns-in-Trailers-clause-first c framing fed stands n before =
    open_before c.args.self.now.place c.args.self.now.sum framing fed c.args.bytes.now n
    (omega (arith, before, c.go_to-in-Trailers.ensures.used)) stands c.requires.open
