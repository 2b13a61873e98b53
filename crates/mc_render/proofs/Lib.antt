pub mod PackedLaws
pub mod PutsLaws
pub mod ReaderLaws
pub mod ShorterLaws
pub mod RenderedLaws
pub mod UnpackLaws
pub mod OutputLaws
pub mod PublicRendered
