pub mod DescriptorLaws
mod DescriptorValues
